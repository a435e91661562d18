-- Lemmas on what the operations make, on walks down a diagram, and on counts of operations.
pub mod BooleanLaws
pub mod Walk
pub mod FewFunctions
pub mod CountingLaws
pub mod WithinLaws
