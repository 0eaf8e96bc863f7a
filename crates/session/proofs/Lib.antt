pub mod Judging
pub mod Nearness
