-- Laws of the record's history.
pub mod EmptiedLaws
