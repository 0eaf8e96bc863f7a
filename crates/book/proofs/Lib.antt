pub mod Bests
pub mod Listing
pub mod Makes
pub mod Places
pub mod Standing
pub mod Turns
