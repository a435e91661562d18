pub mod Signs
pub mod Words
pub mod Passed
pub mod Runs
pub mod Told
pub mod Tokens
