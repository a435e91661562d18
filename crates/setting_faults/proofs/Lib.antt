pub mod DifferenceLaws
pub mod PartOrder
pub mod SettlingCounts
pub mod SettlingLaws
