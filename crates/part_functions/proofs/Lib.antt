-- Laws of functions that are composed of others, and of the networks of a part that reads them.
pub mod ComposeLaws
pub mod GatherLaws
pub mod OrderLaws
pub mod SameReach
pub mod SmallLaws
pub mod SpendLaws
pub mod StandLaws
