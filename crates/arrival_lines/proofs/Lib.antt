pub mod RisingLaws
mod SettingLaws
