-- The least place of a wanted text, found in bytes (document 02, A12).
pub mod Search
