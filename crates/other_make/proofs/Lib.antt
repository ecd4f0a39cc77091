-- Laws of walks over attributes, of our attributes looked up in the block that another make sent, and of what that answers.
pub mod Walks
pub mod Lookups
pub mod Finds
pub mod Ours
pub mod Checks
