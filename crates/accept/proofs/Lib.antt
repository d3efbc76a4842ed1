-- Laws.
pub mod TreeReads
pub mod KeptReads
pub mod Accepted
