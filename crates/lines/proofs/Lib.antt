mod Numbering
mod Lengths
mod Fitting
mod Stepping
mod Halting
mod Taking
mod Lining
