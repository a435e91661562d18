pub mod CellLaws
pub mod CircuitLaws
pub mod InputLaws
pub mod ObservedLaws
pub mod SearchLaws
pub mod SpanLaws
