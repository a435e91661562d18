pub mod FirmGround
pub mod Settled
pub mod StepDown
pub mod StepParts
