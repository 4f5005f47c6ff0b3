-- Laws of a sample, in reading order.
pub mod ThermalLaws
pub mod SampleLaws
