-- The definitions of the tests of an entry in place.
pub mod EntryTests
