pub mod CellNames
pub mod PathLaws
