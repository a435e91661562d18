pub mod Grammar
pub mod Readings
pub mod Kept
pub mod Limits
