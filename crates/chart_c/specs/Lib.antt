-- What the functions of the C interface answer, and what they leave in the lent places, by the definitions of `rules`.
pub mod Lent
pub mod Answers
pub mod Forms
pub mod Calls
pub mod Plotting
pub mod Texts
