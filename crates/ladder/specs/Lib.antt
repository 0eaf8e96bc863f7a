pub mod Ladders
pub mod Soundness
