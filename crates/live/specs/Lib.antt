-- Document 02, A11 and A12: the live tree that a reading holds, and its texts with their paths, in words.
pub mod Words
pub mod Live
pub mod Texts
pub mod Ways
