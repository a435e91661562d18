pub mod Channels
pub mod Local
pub mod Marks
pub mod Responses
pub mod Tables
