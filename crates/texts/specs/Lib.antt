-- What the numbers of refusals and verdicts mean, as text.
pub mod Texts
