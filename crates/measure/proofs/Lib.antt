-- Laws about the definitions of specs/, for the proofs here and in the crates above.
pub mod NumberLaws
pub mod MeasureLaws
pub mod DataLaws
pub mod WalkLaws
pub mod ValueLaws
