-- The definitions of time-limited commands (W-208), in reading order.
pub mod Timer
pub mod Command
pub mod Drive
pub mod Trace
