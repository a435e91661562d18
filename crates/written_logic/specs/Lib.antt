pub mod Logics
pub mod Standing
