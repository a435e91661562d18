pub mod Circuits
pub mod Given
pub mod Outputs
pub mod ToldFacts
pub mod Verdicts
