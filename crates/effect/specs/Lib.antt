-- The parts of an effect.
pub mod Effects
