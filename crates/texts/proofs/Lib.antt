-- Laws of the texts: their lengths.
pub mod Lengths
