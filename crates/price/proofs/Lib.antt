mod Turns
mod Bounds
mod Choosing
pub mod Outcomes
