pub mod Between
pub mod Meaning
pub mod PhaseLaws
pub mod Start
