pub mod ConstrainedLaws
pub mod DontCareLaws
pub mod ObservedLaws
pub mod PortLaws
pub mod RangeLaws
pub mod WishLaws
