-- Laws about the definitions of specs/, for the proofs here and in the crates above.
pub mod NumberLaws
pub mod WritingLaws
pub mod ReadingLaws
pub mod ContentsLaws
pub mod BatchLaws
pub mod ExamplesHold
pub mod NamedLaws
