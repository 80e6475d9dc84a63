pub mod Encoding
pub mod Claim
pub mod Runs
