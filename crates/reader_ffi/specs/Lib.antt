-- Document 02, A6: the reader's answers as numbers.
pub mod Words
