-- The definition of the fill after some of its sectors.
pub mod Moved
