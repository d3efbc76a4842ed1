-- Laws about the definitions of specs/, for the proofs here and in the crates above.
pub mod CountLaws
pub mod LoopLaws
pub mod DateLaws
pub mod NumberLaws
pub mod CalendarLaws
pub mod AnswerLaws
pub mod CodeLaws
pub mod RangeLaws
