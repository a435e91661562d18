pub mod Checked
pub mod Compared
pub mod Flat
pub mod Made
pub mod Planned
pub mod Sizes
pub mod Steps
pub mod Works
