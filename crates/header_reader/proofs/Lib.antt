-- Laws for the proofs here and in the crates above.
pub mod HeadLaws
pub mod KindLaws
pub mod StartLaws
pub mod TableLaws
pub mod WindowLaws
pub mod NumberLaws
