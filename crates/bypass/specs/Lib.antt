pub mod Bypass
pub mod BypassLaws
