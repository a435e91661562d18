-- Lemmas on diagrams, and on what the calls of a store make.
pub mod Meaning
pub mod Canonical
pub mod Growth
pub mod Steps
pub mod Made
pub mod Branches
pub mod Halves
pub mod Choice
pub mod Fixed
pub mod MemoLaws
pub mod Results
pub mod Opening
pub mod Pigeon
pub mod Exact
pub mod Bound
pub mod Frames
pub mod MakesLaws
