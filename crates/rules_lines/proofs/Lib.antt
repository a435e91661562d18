pub mod Ranged
pub mod LongLaws
