pub mod CoverGraphs
pub mod Linked
pub mod Named
pub mod PhaseArcs
pub mod PortLinks
pub mod Reached
