-- Laws of the record's bytes after a write, in reading order.
pub mod StoredLaws
pub mod FitsLaws
pub mod FramedLaws
pub mod HistoryLaws
pub mod BlankLaws
