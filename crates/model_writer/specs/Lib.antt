pub mod Counts
pub mod Pieces
pub mod Refused
pub mod Shapes
