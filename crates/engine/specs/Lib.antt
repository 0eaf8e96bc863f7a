pub mod Messages
pub mod Pairings
pub mod Runs
