-- What the code hands on of tags: the test of which communities are dropped, and the bytes of a new tag; and what a walk finds.
pub mod Tags
pub mod Received
pub mod Walks
