-- Laws of how an operation is decided: a key (DecideKey); a transfer and an access (AccessLaws).
pub mod DecideKey
pub mod AccessLaws
