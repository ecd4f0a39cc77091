-- What the code hands on of a new tag and of a new OTC.
pub mod Told
