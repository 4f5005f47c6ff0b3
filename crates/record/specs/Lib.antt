-- What the structs mean.
pub mod DeviceMeaning
