-- What the internal form of receipt hands on, and the AS that an OTC names.
pub mod Placed
