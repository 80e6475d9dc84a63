-- Laws of calls as numbers and of answers as numbers, of the start of a list, of calls made one after the other, and demand 3.
pub mod Decoding
pub mod Numbers
pub mod Starting
pub mod Running
pub mod Claims
pub mod Chains
pub mod Outcomes
