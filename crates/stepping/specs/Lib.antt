pub mod Stepping
pub mod SteppingLaws
