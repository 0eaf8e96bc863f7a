pub mod Between
pub mod Closed
pub mod Halving
pub mod Legal
pub mod Totals
