pub mod Naming
pub mod OnFile
pub mod Status
