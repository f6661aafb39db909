pub mod Reading
pub mod Replacing
pub mod Parts
pub mod Laws
