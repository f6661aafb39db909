pub mod Columns
pub mod Relying
