-- The laws of the calls: the call by value from its piece.
pub mod CallLaws
pub mod Demands
