-- Laws of the fields of the four slots.
pub mod SlotsLaws
