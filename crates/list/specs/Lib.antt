-- Document 02, A8: a list closed by walking its data.
pub mod Close
