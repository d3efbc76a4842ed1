-- Document 02, A6: which pairs of dictionary and value are accepted, and as what they read.
pub mod Scalars
pub mod Grammar
pub mod Tests
pub mod Fields
