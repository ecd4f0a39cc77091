-- Laws of hex and decimal text.
pub mod Spelling
pub mod Decimals
