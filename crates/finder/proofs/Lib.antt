-- What is found is what the pair's reading says.
pub mod FindLaws
