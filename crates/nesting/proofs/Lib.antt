mod DepthLaws
mod FirstLaws
pub mod ReachedLaws
