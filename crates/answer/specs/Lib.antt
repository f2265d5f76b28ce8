pub mod Output
pub mod ExampleOutput
pub mod Lines
pub mod Lengths
