pub mod Begun
pub mod Going
pub mod Finished
pub mod Sound
pub mod Keeping
pub mod Rows
pub mod Looping
pub mod Answering
