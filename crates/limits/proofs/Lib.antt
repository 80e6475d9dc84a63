pub mod Spread
mod Deviation
pub mod Summing
pub mod Removing
mod Comparison
