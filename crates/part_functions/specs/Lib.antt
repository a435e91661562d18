pub mod Inner
pub mod Replaced
pub mod Small
