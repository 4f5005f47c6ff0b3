-- Laws of a conversion's checks.
pub mod ConvertingLaws
