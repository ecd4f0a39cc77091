-- Laws of the run over a table and of the build's answers.
pub mod Filling
pub mod Answering
