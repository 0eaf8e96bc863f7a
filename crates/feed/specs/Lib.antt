pub mod Faults
pub mod Places
pub mod Steps
pub mod Scripts
pub mod Replies
pub mod Playing
