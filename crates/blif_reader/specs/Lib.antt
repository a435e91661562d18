pub mod Shown
pub mod Cards
pub mod Opened
pub mod Models
pub mod Refused
pub mod Learned
pub mod Built
