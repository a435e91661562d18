pub mod Ends
pub mod Falls
