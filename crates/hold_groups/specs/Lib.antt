pub mod Elements
pub mod Given
pub mod Grouped
pub mod Sources
pub mod Steps
