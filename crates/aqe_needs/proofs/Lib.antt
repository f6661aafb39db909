pub mod Marked
pub mod Parts
pub mod Marking
