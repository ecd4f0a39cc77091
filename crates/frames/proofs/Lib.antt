-- Laws of frames, of VRP frames, of the fourth field, and of receipt frames once receipt has answered.
pub mod Framing
pub mod Tabling
pub mod Fields
pub mod Receiving
