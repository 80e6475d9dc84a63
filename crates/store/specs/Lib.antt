pub mod Records
pub mod Store
pub mod HeldChart
