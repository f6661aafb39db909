pub mod Built
pub mod Tasks
pub mod Pieces
pub mod Sides
pub mod Below
