pub mod Covers
pub mod Gates
pub mod Models
pub mod Drafts
pub mod Fits
