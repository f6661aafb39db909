pub mod Rectangles
pub mod Pairs
pub mod Laws
