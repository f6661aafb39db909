pub mod Quotients
pub mod Ranges
pub mod Meeting
