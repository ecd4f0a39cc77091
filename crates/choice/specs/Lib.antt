-- What choosing keeps of a candidate, and of the candidates met so far.
pub mod Keys
pub mod Bests
