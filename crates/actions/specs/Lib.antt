-- What a call over pieces of the record gives back and leaves behind.
pub mod Actions
pub mod Append
