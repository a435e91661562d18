pub mod FirstNotes
pub mod TableLaws
