-- Document 02, A6: the reading of what a run keeps.
pub mod Shape
