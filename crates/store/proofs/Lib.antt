pub mod TwoBytes
pub mod RecordsIn
pub mod Writing
pub mod Reading
pub mod Returning
pub mod HeldChart
