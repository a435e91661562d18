pub mod TokenLaws
pub mod Complete
pub mod Sound
pub mod ReadLaws
pub mod FormLaws
pub mod Operators
pub mod Examples
pub mod PieceLaws
