-- Laws that the proofs of several functions use.
pub mod SameKind
pub mod Held
pub mod Kept
pub mod Building
pub mod Places
pub mod Drawn
pub mod Room
pub mod Texts
