pub mod Orders
pub mod KeyRows
pub mod Agreeing
pub mod Parts
pub mod Sides
