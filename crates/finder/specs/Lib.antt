-- Finding a text and saying where it is (document 02, A12).
pub mod Finds
