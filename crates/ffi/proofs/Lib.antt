-- The laws of the state words, of a scalar's numbers, and of a call over words from its piece.
pub mod WordLaws
pub mod ScalarLaws
pub mod CodeLaws
pub mod CallLaws
pub mod ChainLaws
pub mod DateLaws
pub mod PackedLaws
pub mod BatchFileLaws
