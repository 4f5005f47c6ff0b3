-- Laws of console's definitions, in reading order.
pub mod DigitsLaws
pub mod WroteLaws
pub mod RecordsLaws
pub mod ReadLaws
