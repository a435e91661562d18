pub mod Covers
pub mod Examples
pub mod NodeBits
pub mod NodeOrder
pub mod Numbers
pub mod WrittenBits
pub mod WrittenNames
pub mod WrittenSignals
