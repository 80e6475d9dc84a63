pub mod Places
mod Marks
pub mod Rounds
mod OtherSums
mod Tails
pub mod SoundCharts
pub mod State
pub mod ZeroChart
mod Builds
mod Calls
pub mod Runs
pub mod StaysSound
pub mod Checked
