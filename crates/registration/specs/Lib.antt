pub mod Refusals
pub mod Criteria
pub mod Bands
pub mod Verdicts
pub mod Acceptance
