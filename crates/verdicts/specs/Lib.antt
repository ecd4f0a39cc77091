-- What the rules of receipt and sending come to: the number of one, or none.
pub mod Judge
