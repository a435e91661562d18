pub mod CardLaws
pub mod ChainLaws
pub mod HeldLaws
pub mod ListedLaws
pub mod LookupLaws
pub mod NestedLaws
pub mod OrderLaws
pub mod SetLaws
