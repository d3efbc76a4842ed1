-- Document 02, A13: all the small values.
pub mod Small
