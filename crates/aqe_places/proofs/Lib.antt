pub mod Exchanged
pub mod Sorted
pub mod Ordered
pub mod OneOrder
pub mod Bounds
pub mod Ranges
