pub mod Codes
pub mod Joins
