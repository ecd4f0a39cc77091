-- Laws of the words of a prefix, and of one record.
pub mod Words
pub mod Records
