pub mod Meaning
pub mod Covered
pub mod Terminals
pub mod Nets
pub mod FlatBits
pub mod Cells
