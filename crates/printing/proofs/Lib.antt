pub mod Putting
pub mod Digits
pub mod HexDigits
mod Signs
pub mod TextTables
