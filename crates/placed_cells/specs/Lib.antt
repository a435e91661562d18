pub mod Above
pub mod Cuts
pub mod Depths
pub mod Instances
pub mod Named
pub mod Rows
pub mod Splits
