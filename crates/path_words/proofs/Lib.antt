-- Laws of the path to a place, and of its words.
pub mod WalkLaws
pub mod DigitLaws
pub mod NameLaws
pub mod FrontLaws
pub mod WordLaws
pub mod StepLaws
pub mod PathLaws
pub mod ChildLaws
pub mod DescentLaws
