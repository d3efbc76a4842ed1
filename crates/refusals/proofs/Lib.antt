-- The laws of the rows.
pub mod ViewLaws
pub mod NameLaws
pub mod NumberLaws
pub mod RowLaws
pub mod NamedLaws
pub mod FlagLaws
