pub mod Balancing
pub mod Following
mod Knowing
