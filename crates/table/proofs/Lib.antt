mod Chains
mod Counted
mod Moving
mod Tabling
