pub mod KeeperNotes
pub mod NetLaws
pub mod PlaceLaws
pub mod SaidLaws
pub mod StrengthNotes
