pub mod Ranges
pub mod Openings
pub mod Refusals
pub mod Judgements
pub mod Rounding
