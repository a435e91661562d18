pub mod DeviceTables
pub mod Devices
