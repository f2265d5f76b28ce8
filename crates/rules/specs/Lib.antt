pub mod Values
pub mod Walk
pub mod Snapshot
pub mod Speculation
pub mod SpeculationLaws
pub mod Call
pub mod Refusals
pub mod Examples
