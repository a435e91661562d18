pub mod Graphs
pub mod Groups
pub mod Levels
pub mod Orders
pub mod Trails
