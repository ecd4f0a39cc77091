-- Laws of the table that grows, of frames by their kind, and of the fourth field.
pub mod Tabling
pub mod ByKind
pub mod Fields
