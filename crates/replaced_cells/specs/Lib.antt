pub mod Agreement
pub mod Chain
pub mod Faults
pub mod Levels
pub mod OneMoreWhole
