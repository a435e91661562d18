pub mod ArrivalLines
pub mod LineTexts
pub mod RisingNames
pub mod Settings
