-- The sizes of the desk's tables, the kinds of frames, and what the desk keeps.
pub mod Sizes
pub mod Kinds
pub mod Keeping
