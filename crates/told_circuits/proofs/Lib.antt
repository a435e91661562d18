pub mod ArcLaws
pub mod Decisions
pub mod Falling
pub mod GreatestShut
pub mod KnownLaws
pub mod PartLaws
pub mod ToldLaws
