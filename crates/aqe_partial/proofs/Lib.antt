pub mod Lists
pub mod Merging
pub mod Keys
pub mod Finishing
