-- The definitions of console, in reading order.
pub mod Text
pub mod Records
