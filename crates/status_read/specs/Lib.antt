-- The reply to a status read.
pub mod StatusReply
