pub mod Refusals
pub mod Contributions
pub mod Judging
pub mod Criteria
pub mod Grounds
