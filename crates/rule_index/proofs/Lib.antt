pub mod CellLaws
pub mod FirstNotes
pub mod NameLaws
pub mod PairLaws
pub mod PlaceLaws
pub mod PlacedLaws
