pub mod FirstFaults
pub mod Looks
pub mod ReplayAnswers
pub mod Replays
pub mod Settling
pub mod Views
