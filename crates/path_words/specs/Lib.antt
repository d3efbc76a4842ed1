-- The path to a place, found in bytes, and its words (document 02, A12).
pub mod Descent
pub mod Writing
