mod Encoding
mod Groups
mod Round
mod Listing
mod Putting
mod Placing
mod Deciding
mod Written
pub mod Outcome
pub mod Figures
mod Taking
mod Trading
mod Judging
mod Answering
