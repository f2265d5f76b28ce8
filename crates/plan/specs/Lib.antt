pub mod Lines
pub mod LineLaws
pub mod Plan
pub mod PlanLaws
pub mod Examples
pub mod ExamplePlan
