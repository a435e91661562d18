pub mod NetLevels
pub mod OneLevel
pub mod PhaseLevels
pub mod PortLevels
