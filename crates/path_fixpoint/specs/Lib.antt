pub mod Openings
pub mod Parts
pub mod Passed
pub mod Reaching
pub mod Solved
pub mod Sources
pub mod Spending
pub mod Strengths
