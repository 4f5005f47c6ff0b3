-- Laws of sector_check's definitions, in reading order: W-202's rules in its words and numbers are in PaperLaws; the last four are for the code.
pub mod XorLaws
pub mod DigitLaws
pub mod FlipLaws
pub mod SectorLaws
pub mod RepairLaws
pub mod PaperLaws
pub mod GridLaws
pub mod PlacesLaws
pub mod WordLaws
pub mod RowLaws
