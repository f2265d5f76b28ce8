pub mod Put
pub mod PutLaws
pub mod Text
pub mod TextLaws
pub mod Digits
pub mod Length
pub mod Examples
