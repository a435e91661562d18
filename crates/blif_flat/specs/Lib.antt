pub mod Counts
pub mod Places
pub mod Network
pub mod Flat
