pub mod Entered
pub mod Entries
pub mod Kept
pub mod Links
pub mod Own
pub mod Seen
