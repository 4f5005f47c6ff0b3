-- Laws of the image crate, in reading order.
pub mod EntryInPlace
pub mod ChainLaws
pub mod ImageAnswers
pub mod UsedLaws
