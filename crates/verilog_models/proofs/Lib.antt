pub mod EntryLaws
pub mod FitLaws
pub mod ModelLaws
