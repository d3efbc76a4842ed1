-- Laws for the proofs here and in the crates above.
pub mod PartLaws
pub mod HoldLaws
