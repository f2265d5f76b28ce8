pub mod Pieces
pub mod SameText
pub mod SameTextLaws
pub mod Examples
