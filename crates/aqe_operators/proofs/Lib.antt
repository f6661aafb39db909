pub mod Taken
pub mod Entries
pub mod Gathered
pub mod Columns
pub mod Narrowed
