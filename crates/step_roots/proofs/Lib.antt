pub mod CareCounts
pub mod ComparedLaws
pub mod HoldRoots
pub mod MovedLaws
