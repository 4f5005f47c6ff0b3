-- Laws of the tests that the code makes, in reading order.
pub mod PendingLaws
pub mod SoundnessLaws
