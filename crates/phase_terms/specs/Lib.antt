pub mod Found
pub mod Opened
pub mod Plans
pub mod Ready
pub mod Stores
