pub mod Reading
pub mod Nesting
pub mod Steps
