pub mod Bounds
pub mod Equality
pub mod KeyOrder
pub mod Murmur
pub mod Order
pub mod RowHash
pub mod Sizes
