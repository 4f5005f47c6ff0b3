-- Laws of the structs that the functions change, in reading order.
pub mod ChangeLaws
pub mod FourSlots
pub mod InterruptLaw
