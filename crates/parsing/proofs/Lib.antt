-- Bytes, texts and fields, then numbers, then hex digits.
pub mod Tests
pub mod FrontEnd
mod FirstField
mod LineEnd
mod Values
mod Signed
mod HexBytes
