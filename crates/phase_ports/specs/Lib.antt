pub mod Comparisons
pub mod DontCares
pub mod Observed
pub mod Ports
pub mod Seen
