pub mod Histories
pub mod Wholes
pub mod Endings
pub mod Marks
