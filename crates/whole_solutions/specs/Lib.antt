pub mod Instances
pub mod KnownInside
pub mod Observed
pub mod PairedPorts
pub mod Ranked
