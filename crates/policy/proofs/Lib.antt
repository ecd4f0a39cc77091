-- Laws of what is found of a block, of what is decided by it, and of what the operations leave.
pub mod Readings
pub mod Deciding
pub mod Receives
pub mod Sends
