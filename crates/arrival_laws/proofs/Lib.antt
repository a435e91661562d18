pub mod OrderLaws
pub mod SettlingLaws
pub mod StepLaws
