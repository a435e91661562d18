pub mod DriveLaws
pub mod LoneLaws
pub mod NetLaws
pub mod OutputKeys
pub mod ToldLaws
pub mod WholeDriveLaws
