-- The desk's sizes, and what its byte machine promises.
pub mod Sizes
pub mod Machine
