pub mod LocalLaws
pub mod Passing
pub mod Rounds
pub mod Spreads
