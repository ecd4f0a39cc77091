-- Laws of the look-up, each file below those that it cites: in any memory, its steps, and in memory that holds a table's index.
pub mod Descents
pub mod Steps
pub mod Finding
pub mod Stating
pub mod Scanning
pub mod Promising
