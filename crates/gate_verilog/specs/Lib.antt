pub mod Built
pub mod Told
pub mod Texts
