pub mod Evaluations
pub mod FreeOutputs
pub mod Logic
pub mod Tables
pub mod Words
