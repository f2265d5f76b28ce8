pub mod StepLines
pub mod StepLaws
pub mod Examples
