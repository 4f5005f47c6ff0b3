-- Laws of runs of bytes.
pub mod RunLaws
