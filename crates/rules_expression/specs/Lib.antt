pub mod Tokens
pub mod Spelled
pub mod Pieces
pub mod Grammar
pub mod Readings
pub mod Kept
pub mod Formed
