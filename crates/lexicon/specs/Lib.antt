-- Document 02, A6: a dictionary read.
pub mod Dictionary
