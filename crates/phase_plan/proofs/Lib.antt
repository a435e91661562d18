pub mod ArcLaws
pub mod CarriedLaws
pub mod FewLaws
pub mod HeldLaws
pub mod PlanLaws
