mod EndLaws
pub mod FallLaws
mod LineLaws
mod ListLaws
mod NoteLaws
mod PathLaws
mod RuleLaws
