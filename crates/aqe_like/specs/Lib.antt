pub mod Patterns
pub mod Laying
