-- Laws of the words of a chart that are shown, and of how long the texts can be.
pub mod Lengths
