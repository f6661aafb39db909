pub mod Shapes
pub mod Forms
pub mod Nodes
pub mod Counts
