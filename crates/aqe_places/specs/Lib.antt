pub mod Places
pub mod Sorting
pub mod Samples
pub mod Laws
