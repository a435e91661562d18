pub mod ModuleCells
