pub mod PhaseLaws
pub mod SettingLaws
pub mod Unclocked
