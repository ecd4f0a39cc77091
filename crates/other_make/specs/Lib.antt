-- How our attributes are looked up in the block that another make sent.
pub mod Finding
