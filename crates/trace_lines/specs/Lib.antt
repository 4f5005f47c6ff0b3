-- The definitions of a trace's bytes and lines, in reading order.
pub mod Lines
