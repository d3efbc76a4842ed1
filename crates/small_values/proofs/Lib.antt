-- Laws of the small values.
pub mod DigitLaws
pub mod ShortTexts
pub mod SmallLaws
pub mod ValueLaws
pub mod CountLaws
pub mod WritingLaws
