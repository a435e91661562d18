pub mod Depths
pub mod First
pub mod Reached
