pub mod Refusals
pub mod Numbers
pub mod Notes
pub mod Reading
pub mod Writing
pub mod Roundtrip
pub mod Steps
pub mod Figures
