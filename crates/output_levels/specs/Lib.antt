pub mod Always
pub mod PartLevels
