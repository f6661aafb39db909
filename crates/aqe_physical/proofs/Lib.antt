pub mod Shapes
pub mod Walk
pub mod Nodes
pub mod Counted
