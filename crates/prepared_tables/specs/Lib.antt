pub mod ModelNames
pub mod Prepared
