pub mod AlwaysLaws
pub mod LevelLaws
pub mod MarkLaws
pub mod JudgeLaws
pub mod PartLevelLaws
