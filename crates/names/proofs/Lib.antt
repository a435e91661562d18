pub mod FilterLaws
pub mod NameLaws
pub mod NewLaws
pub mod ApartLaws
pub mod PlaceLaws
