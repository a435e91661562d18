pub mod CardLaws
pub mod KnownLaws
pub mod CheckLaws
pub mod BuildLaws
pub mod Examples
pub mod Fits
pub mod WordLaws
