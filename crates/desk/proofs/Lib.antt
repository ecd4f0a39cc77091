-- Laws of handing over.
pub mod Handing
