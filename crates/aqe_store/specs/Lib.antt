pub mod Files
pub mod Told
pub mod Causes
pub mod Sink
pub mod Reading
pub mod Calls
pub mod Shelf
