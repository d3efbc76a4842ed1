-- What the reader answers (document 02, A6).
pub mod Answers
