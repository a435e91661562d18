pub mod Nets
pub mod Sites
pub mod Valuations
