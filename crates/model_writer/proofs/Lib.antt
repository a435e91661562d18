pub mod Backslash
pub mod LengthLaws
pub mod TextLaws
