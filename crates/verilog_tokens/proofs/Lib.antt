pub mod CutLaws
pub mod StepLaws
mod Examples
