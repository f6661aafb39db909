pub mod Numbers
pub mod Truths
pub mod Casts
pub mod Keys
