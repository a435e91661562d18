pub mod CountedSites
mod Floats
pub mod ListedSpots
pub mod PartRanks
pub mod PhaseOrder
pub mod SearchLaws
mod SortedLists
pub mod StepOrder
