pub mod Made
pub mod Names
pub mod Refused
pub mod Standing
pub mod Writing
pub mod Written
