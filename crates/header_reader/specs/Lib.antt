-- For the code: the parts of a header's test.
pub mod Heads
pub mod Kinds
pub mod Windows
