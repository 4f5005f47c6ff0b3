-- The definitions of sector_check, in reading order. The first three state W-202's rules; the others are what the code finds on its way.
pub mod Xor
pub mod Check
pub mod Repair
pub mod Word
pub mod Row
pub mod Reports
