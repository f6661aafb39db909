pub mod Steps
pub mod Replaced
pub mod Others
pub mod Parts
