-- Laws of the reader.
pub mod ValueLaws
pub mod PairLaws
pub mod FieldLaws
pub mod AnswerLaws
pub mod NamedLaws
