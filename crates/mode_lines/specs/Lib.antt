pub mod Lines
pub mod Lists
pub mod NameLists
pub mod Points
