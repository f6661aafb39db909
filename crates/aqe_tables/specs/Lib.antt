-- what is to be believed, in the order to read it
pub mod Options
pub mod Catalog
pub mod Folder
pub mod Load
pub mod Loaded
pub mod Steps
pub mod Laws
-- what serves private functions, invariants and their proofs
pub mod Widths
pub mod Index
pub mod Reading
