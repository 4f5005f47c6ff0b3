-- The definitions of timers and features.
pub mod Features
