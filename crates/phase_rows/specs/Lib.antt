pub mod Apart
pub mod Given
pub mod Observing
pub mod Spans
