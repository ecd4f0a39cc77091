-- What the scan keeps from one record to the next, and what checking a table answers.
pub mod Scan
pub mod Table
