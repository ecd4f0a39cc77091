-- What is planned for a block before any byte of it is stored, the bytes that the plan stands for, and what storing promises.
pub mod Plan
pub mod Stores
