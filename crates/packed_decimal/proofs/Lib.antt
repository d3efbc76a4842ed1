-- Laws about the definitions of specs/, for the proofs here and in the crates above.
pub mod StoredLaws
pub mod ReadLaws
pub mod WriteLaws
pub mod PackedDecimalLaws
pub mod NamedLaws
