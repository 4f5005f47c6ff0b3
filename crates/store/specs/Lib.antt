-- The byte form of the machine, in reading order.
pub mod Areas
pub mod Record
pub mod Sound
pub mod RecordTests
pub mod Store
pub mod Entries
pub mod OnStore
pub mod Condition3
