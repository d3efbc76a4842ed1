-- Laws about what is read.
pub mod NumberLaws
pub mod RangeLaws
pub mod IntegerLaws
