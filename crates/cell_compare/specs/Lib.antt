pub mod Cells
pub mod Looked
pub mod Phases
pub mod Ports
pub mod Stops
pub mod Workspace
