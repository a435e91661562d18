pub mod Arcs
pub mod Causes
pub mod Exchanged
pub mod Limits
pub mod Outputs
pub mod Pairs
pub mod Supported
pub mod Written
