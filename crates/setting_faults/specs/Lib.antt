pub mod Differences
pub mod Settling
