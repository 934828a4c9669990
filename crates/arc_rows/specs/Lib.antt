pub mod Plan
pub mod ArcLaws
pub mod PlanLaws
