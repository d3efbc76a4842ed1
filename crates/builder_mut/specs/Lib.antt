-- What a thin call answers and leaves behind, by the step of `semantics`.
pub mod Calls
