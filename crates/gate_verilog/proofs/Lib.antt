pub mod Kept
pub mod ToldLaws
pub mod FineLaws
pub mod KeptLaws
pub mod ReadLaws
pub mod BuildLaws
pub mod Examples
pub mod MeansLaws
