pub mod CallerLaws
mod CellLaws
mod GlobalLaws
mod InstanceLaws
pub mod LinkLaws
mod OwnNetLaws
mod PortLaws
mod UnrollLaws
pub mod WholeLaws
