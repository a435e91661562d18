pub mod EnteredLaws
pub mod EntryLaws
pub mod LinkedLaws
pub mod SeenLaws
pub mod KeptLaws
