-- The look-up in any memory, and what its steps promise.
pub mod Look
pub mod Descent
