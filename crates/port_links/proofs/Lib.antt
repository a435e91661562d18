-- The links of ports.
pub mod ArcLaws
pub mod CellLaws
pub mod CoverLaws
pub mod LinkLaws
pub mod NamedLaws
pub mod ReachLaws
