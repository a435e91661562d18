pub mod Kept
pub mod Rooted
