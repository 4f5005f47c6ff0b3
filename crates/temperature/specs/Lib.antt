-- The definitions of the device and the record after a sample.
pub mod Sampled
