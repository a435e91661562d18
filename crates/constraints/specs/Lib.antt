pub mod Cared
pub mod Evaluated
pub mod Handles
pub mod Obliged
