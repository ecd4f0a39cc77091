-- Laws of reading an OPEN's parameters.
pub mod Opening
pub mod Opened
