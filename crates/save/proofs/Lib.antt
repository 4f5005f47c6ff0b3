-- Laws of what a save stores.
pub mod AppendLaws
