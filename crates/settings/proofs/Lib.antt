-- Laws of the settings.
pub mod SettingCases
