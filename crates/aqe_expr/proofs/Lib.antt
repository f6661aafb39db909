pub mod InFront
pub mod Shapes
pub mod Steps
