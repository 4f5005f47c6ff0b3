-- What a write requires of a record, what it ensures, and an initialised record, in reading order.
pub mod Framed
pub mod Fits
pub mod Blank
