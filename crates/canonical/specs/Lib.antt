-- Document 02, A11: one form for one record.
pub mod Canonical
pub mod OneForm
pub mod Sizes
