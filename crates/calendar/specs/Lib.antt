-- What the functions of this crate mean: document 02, A2.
pub mod Gregorian
pub mod Answers
