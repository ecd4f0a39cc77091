-- Laws of an answer as numbers.
pub mod Numbering
