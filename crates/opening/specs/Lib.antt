-- What the readers of an OPEN's parameters keep and find.
pub mod Open
