pub mod FreeOutputLaws
pub mod GivenLaws
pub mod OutputLaws
pub mod TableLaws
pub mod DriverLaws
pub mod OrderLaws
pub mod EvaluationLaws
