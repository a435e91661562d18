pub mod Modules
pub mod Grammar
pub mod Places
pub mod Positions
pub mod Known
pub mod Kept
pub mod Refused
pub mod Shown
