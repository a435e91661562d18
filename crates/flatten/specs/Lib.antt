pub mod Circuits
pub mod NetTables
pub mod Structures
pub mod Walks
