pub mod Sound
pub mod Complete
pub mod Begun
pub mod KnownLaws
pub mod JudgeLaws
