-- What a run over the records of a table leaves in memory. Over any width.
pub mod Filling
