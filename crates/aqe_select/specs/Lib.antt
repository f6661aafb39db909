pub mod Clauses
pub mod Scopes
pub mod Reading
pub mod Orders
