pub mod Choices
pub mod Curves
pub mod Cutting
pub mod Decisions
pub mod Fitting
pub mod Keeping
pub mod Laying
pub mod Turning
mod Letters
mod Lists
pub mod Pairing
pub mod Rivalry
pub mod Shrinking
pub mod Signs
pub mod Sums
