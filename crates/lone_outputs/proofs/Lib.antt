pub mod FilterCounts
pub mod LoneLaws
pub mod PortPlaces
