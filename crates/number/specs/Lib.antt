pub mod Numbers
pub mod NumberLaws
pub mod Negation
pub mod Examples
