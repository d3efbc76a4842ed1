-- The batch file of document 02's A7: its bytes, what the writer's calls do, and what reading any bytes gives.
pub mod Layout
pub mod Writing
pub mod Reading
