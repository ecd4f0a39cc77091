-- Laws of the walk over a value, of what is left of a value, of a tag's bytes, of the state that tags tell, and of how many are thrown out.
pub mod Dropped
pub mod Matched
pub mod Told
pub mod Tagged
pub mod Thrown
pub mod Walked
