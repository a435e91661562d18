pub mod GivenLaws
pub mod ListLaws
pub mod LookupLaws
pub mod MarkLaws
pub mod PairedLaws
pub mod TableLaws
