-- What packed decimal means, and what its calls answer and leave behind: document 02, A4.
pub mod PackedDecimal
pub mod Calls
pub mod Capped
