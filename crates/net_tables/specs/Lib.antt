pub mod Nets
pub mod Names
pub mod Tables
pub mod Places
