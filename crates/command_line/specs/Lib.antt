pub mod Command
pub mod Manual
pub mod Requests
pub mod Steps
