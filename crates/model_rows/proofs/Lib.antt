-- How often a signal of a model is driven.
pub mod CheckLaws
