pub mod Files
pub mod Filling
