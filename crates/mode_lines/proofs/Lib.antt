pub mod ComparisonLaws
pub mod MeetLaws
pub mod NameLaws
pub mod ReplayLaws
