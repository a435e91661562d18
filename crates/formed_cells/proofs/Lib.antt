pub mod FormedLaws
pub mod SupportedLaws
