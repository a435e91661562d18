pub mod LineLaws
pub mod ModelLaws
