-- The reply to a status read, by the lock.
pub mod StatusLaws
