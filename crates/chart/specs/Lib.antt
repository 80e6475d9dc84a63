pub mod Pad
pub mod Rejection
pub mod Tail
pub mod Chart
pub mod Soundness
pub mod Checked
pub mod Calls
