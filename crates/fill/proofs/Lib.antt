-- Laws of the fill on the bytes, in reading order.
pub mod SectorLaws
pub mod StepsLaws
