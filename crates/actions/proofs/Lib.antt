-- The laws of the pieces: a name and its entry, and each call.
pub mod EnterLaws
pub mod AppendLaws
pub mod CloseLaws
pub mod UndoLaws
pub mod OpenLaws
pub mod UniqueLaws
pub mod MarkLaws
pub mod FinishLaws
pub mod ElementLaws
pub mod FlagLaws
