-- Laws about the table of marks, for the proofs here.
pub mod TableLaws
