pub mod Skewed
pub mod Splits
pub mod Paired
pub mod Laws
