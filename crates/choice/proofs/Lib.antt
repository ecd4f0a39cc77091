-- Laws of one candidate, of the order, of the best route so far, of all candidates in their sequence, and of the answers.
pub mod Candidates
pub mod Ordering
pub mod Picking
pub mod Taking
pub mod Choosing
