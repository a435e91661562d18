pub mod CaseLevels
pub mod NetLevelLaws
pub mod OneLevelLaws
pub mod PartStrengths
pub mod PhaseLevels
pub mod PortLaws
