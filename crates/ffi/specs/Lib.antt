-- What state words and a scalar's numbers mean, and what a word call answers and leaves behind.
pub mod Words
pub mod Scalars
pub mod Dates
pub mod Packed
pub mod BatchFile
