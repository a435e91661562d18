pub mod Levels
pub mod States
