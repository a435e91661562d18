-- Searches back over arcs, groups that no cycle leaves, levels, and orders.
pub mod Acyclic
pub mod GroupLaws
pub mod LevelLaws
pub mod Lists
pub mod OrderLaws
pub mod TrailLaws
pub mod Walks
