pub mod Runs
pub mod Begun
pub mod Endings
pub mod Shows
