-- What a thin call says beside the call by value, and what `lend` makes of a method's.
pub mod ThinLaws
pub mod LendLaws
pub mod ChainLaws
