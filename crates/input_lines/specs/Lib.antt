-- What cutting a line promises, and what a machine promises that answers lines however its input is cut.
pub mod Lines
pub mod Feeding
