pub mod Faults
pub mod Texts
