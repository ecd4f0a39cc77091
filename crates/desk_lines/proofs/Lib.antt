-- Laws of lines answered, and of the machine.
pub mod Saying
pub mod Feeding
pub mod Running
