-- Document 02, A8: values measured by their first bytes.
pub mod Measure
