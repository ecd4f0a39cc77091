-- Laws of one node more, of the way to a node, of one record more, of how many nodes there are, and of the answers, each file below those
-- that it cites.
pub mod Growing
pub mod Ways
pub mod Holding
pub mod Counting
pub mod Answering
