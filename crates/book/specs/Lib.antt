pub mod Best
pub mod Ranges
pub mod Meaning
pub mod Ranks
pub mod Runs
pub mod Refusals
