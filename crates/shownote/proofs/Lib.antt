mod Totals
mod Shown
