pub mod Flat
pub mod Interfaces
pub mod Lines
pub mod Texts
