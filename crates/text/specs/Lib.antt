-- What decoding stores.
pub mod Hex
