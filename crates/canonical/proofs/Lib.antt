-- Laws.
pub mod UseLaws
pub mod GoodLaws
pub mod AgainLaws
pub mod SizeLaws
pub mod NameLaws
pub mod OneFormLaws
pub mod ByName
pub mod CallLaws
pub mod WriterLaws
pub mod BackLaws
pub mod ExamplesHold
