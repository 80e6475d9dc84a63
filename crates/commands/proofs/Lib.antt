-- The fields of a line, their faults, and the words and bytes in them. The commands' names. What a line is. What a command replies, and how
-- long the reply can be. `read` takes what `write` prints.
pub mod Fields
mod FirstFault
mod WordsPut
mod NamesTried
mod Lines
pub mod Replying
mod Writing
mod Room
pub mod ReadBack
