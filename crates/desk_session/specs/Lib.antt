-- The definitions for one record of a session, in reading order.
pub mod Report
pub mod Start
pub mod Turn
