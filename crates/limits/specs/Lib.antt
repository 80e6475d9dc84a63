pub mod Bounded
pub mod Sums
