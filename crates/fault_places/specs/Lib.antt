pub mod PhaseSpots
pub mod Searches
pub mod States
