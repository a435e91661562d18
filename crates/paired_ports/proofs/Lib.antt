pub mod CarriedClocks
pub mod FreePorts
pub mod GivenLists
pub mod PairableLaws
pub mod PortLists
pub mod PortSignals
pub mod RoleLaws
