pub mod Seen
pub mod Reading
pub mod Versions
pub mod Laws
