-- Laws of time-limited commands, in reading order.
pub mod RecordBytes
pub mod KindTable
pub mod Borders
pub mod TimerLaws
pub mod Transitions
pub mod SettingLaws
pub mod BySums
pub mod GroupLaws
pub mod TraceLaws
