-- Drivers, what depends on what, and the law that a model with an order has exactly one assignment.
pub mod Drivers
pub mod LatchLaws
pub mod DriverLaws
pub mod FoundDrivers
pub mod KnownLaws
pub mod FixedLaws
pub mod LocalLaws
pub mod OneAssignment
pub mod GraphLaws
pub mod LearningLaws
pub mod EvalLaws
pub mod OperationLaws
pub mod RowLaws
pub mod CountLaws
pub mod SelectLaws
pub mod FullLaws
