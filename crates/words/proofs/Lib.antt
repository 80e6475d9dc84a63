mod Halves
mod Readings
