pub mod Models
pub mod Sums
