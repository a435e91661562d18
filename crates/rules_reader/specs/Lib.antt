pub mod Shown
pub mod Entries
pub mod Keys
pub mod Tables
pub mod Refused
pub mod Claimed
pub mod Learned
pub mod Built
