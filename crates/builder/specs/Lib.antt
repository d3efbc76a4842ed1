-- What a call gives back and leaves behind, by the step of `semantics`.
pub mod Calls
