pub mod Catalogs
pub mod Given
pub mod Seen
pub mod Pairs
pub mod Widths
