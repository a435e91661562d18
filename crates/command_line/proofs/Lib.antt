pub mod NumberLaws
pub mod OneCause
