pub mod Schedule
pub mod Literal
pub mod Prices
pub mod Crossings
pub mod Rivals
pub mod Trades
pub mod Holding
