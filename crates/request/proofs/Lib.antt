-- Laws of a request: its registers as bytes (RequestBytes), the direction of a transfer (DirectionLaws).
pub mod RequestBytes
pub mod DirectionLaws
