-- Document 02, A6: the integers among the scalars.
pub mod Integers
