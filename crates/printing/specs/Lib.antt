pub mod Output
pub mod Decimal
pub mod Hex
pub mod Ascii
pub mod Table
