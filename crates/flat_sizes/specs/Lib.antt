pub mod Mentions
pub mod Sizes
pub mod Totals
