-- Laws of a reply's bytes.
pub mod ReplyLaws
