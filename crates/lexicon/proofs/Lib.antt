-- Laws about what is read.
pub mod ByteLaws
pub mod DictionaryLaws
pub mod TestLaws
pub mod NameLaws
pub mod ExamplesHold
