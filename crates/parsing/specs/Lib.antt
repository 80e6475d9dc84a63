pub mod Bytes
pub mod Fields
pub mod Number
pub mod Hex
pub mod Text
