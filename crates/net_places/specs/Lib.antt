pub mod Globals
pub mod Instances
pub mod Links
pub mod OwnNets
pub mod Places
pub mod Ports
pub mod Whole
