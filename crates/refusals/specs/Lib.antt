-- What the numbers are decided on: a call's name, its field, and what stands in the lent slices.
pub mod Decide
