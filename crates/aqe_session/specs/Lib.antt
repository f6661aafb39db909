pub mod Finished
pub mod Query
