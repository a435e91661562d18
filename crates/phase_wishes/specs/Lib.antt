pub mod Held
pub mod Missed
pub mod Wishes
