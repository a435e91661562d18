pub mod Combinational
pub mod InputNets
pub mod InterfaceNames
pub mod LogicModels
pub mod MadeLogics
pub mod Writable
pub mod WrittenParts
