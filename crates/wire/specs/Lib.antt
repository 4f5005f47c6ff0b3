-- The definitions of wire, in reading order.
pub mod Choice
pub mod Numbers
pub mod Parts
pub mod Layout
pub mod Bytes
