pub mod Runs
pub mod Surveys
