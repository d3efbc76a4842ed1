-- Laws of the search.
pub mod KindLaws
pub mod WalkLaws
pub mod SearchLaws
