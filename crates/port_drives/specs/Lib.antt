pub mod Drives
pub mod Outputs
pub mod Ports
