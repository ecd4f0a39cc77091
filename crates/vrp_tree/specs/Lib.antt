-- The leading parts of a table's prefixes, and the memory that holds their tree. Over any width.
pub mod Tree
pub mod Memory
