mod Elements
mod EqualGives
mod GroupFacts
mod HeldBits
mod Listed
pub mod MemoryBits
mod RunsFromEqual
mod SameSettings
pub mod WellFormed
