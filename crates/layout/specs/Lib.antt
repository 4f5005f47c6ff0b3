-- The definitions of layout.
pub mod Answer
