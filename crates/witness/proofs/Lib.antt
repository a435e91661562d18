-- What nets show at one valuation.
pub mod FirstFaultLaws
pub mod LookLaws
pub mod MeetingLaws
pub mod NoteLaws
pub mod PartResponses
pub mod PartNets
pub mod SettingLaws
pub mod SettleLaws
pub mod StartLaws
pub mod SweepLaws
pub mod ViewLaws
pub mod Spaces
