mod Judging
mod Held
