mod Quotients
mod Newton
mod Deviations
mod LineParts
mod Doubles
pub mod PartsHeld
pub mod Comparing
pub mod ChartLines
pub mod HeldLines
