pub mod Aheads
pub mod Soundness
pub mod Tables
