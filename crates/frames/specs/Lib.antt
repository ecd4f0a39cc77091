-- The sizes of frames, and how they are replied to.
pub mod Sizes
pub mod Replying
