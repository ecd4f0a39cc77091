-- Laws of lines and of feeding pieces.
pub mod Lining
pub mod Feeding
