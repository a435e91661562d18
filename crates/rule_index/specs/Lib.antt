pub mod Firsts
pub mod Lines
pub mod Tables
