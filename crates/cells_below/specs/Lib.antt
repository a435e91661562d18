pub mod Below
pub mod Met
