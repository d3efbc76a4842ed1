-- Laws of live trees, texts, paths and words.
pub mod WordLaws
pub mod ListLaws
pub mod ChildLaws
pub mod TextLaws
pub mod PlaceLaws
pub mod WayLaws
pub mod LeastLaws
pub mod ExamplesHold
