pub mod AllNumbers
pub mod NodeTests
pub mod Numbering
pub mod Places
pub mod VisitLaws
pub mod Visits
