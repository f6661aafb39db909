pub mod Clauses
pub mod Tokens
