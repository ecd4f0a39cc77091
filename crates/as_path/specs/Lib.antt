-- How the code takes an AS_PATH apart.
pub mod Splitting
