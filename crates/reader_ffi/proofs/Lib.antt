-- Laws of the reader's words.
pub mod WordLaws
