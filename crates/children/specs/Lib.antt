-- The live children of a value, in bytes (document 02, A11).
pub mod Children
