-- Laws of the segments of a path.
pub mod Segments
