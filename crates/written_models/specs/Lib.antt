pub mod Functions
pub mod NodeLaws
pub mod Written
pub mod WrittenLaws
