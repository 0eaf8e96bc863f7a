pub mod Crossed
pub mod Indications
pub mod Steps
