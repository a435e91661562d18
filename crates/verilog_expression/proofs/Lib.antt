pub mod BranchLaws
pub mod Complete
pub mod Sound
pub mod Begun
mod Examples
