-- Laws of the scan over a table, of the table check, and of a table in parts.
pub mod Scans
pub mod Tables
pub mod Parting
