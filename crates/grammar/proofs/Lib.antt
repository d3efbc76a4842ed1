-- Laws of the grammar.
pub mod ShapeLaws
pub mod ScalarLaws
pub mod CutLaws
pub mod HeadLaws
pub mod TestLaws
pub mod FieldLaws
pub mod LengthLaws
