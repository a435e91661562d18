pub mod LeastLaws
pub mod NetLaws
pub mod SiteLaws
