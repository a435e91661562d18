pub mod Defined
pub mod Idle
pub mod KnownNets
pub mod Logic
pub mod Ranks
pub mod Solved
pub mod WholeCells
pub mod WholePlaces
