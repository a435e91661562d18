pub mod Lone
pub mod Owners
