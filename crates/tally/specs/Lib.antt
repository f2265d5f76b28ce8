pub mod Tally
pub mod TallyLaws
pub mod Total
pub mod TotalLaws
pub mod Share
pub mod ShareLaws
pub mod Examples
