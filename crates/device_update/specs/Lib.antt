-- How the device changes.
pub mod Change
