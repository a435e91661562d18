pub mod Supported
pub mod WellFormed
