pub mod Facts
pub mod Looked
pub mod Marked
pub mod Paired
