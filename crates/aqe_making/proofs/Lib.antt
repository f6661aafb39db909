pub mod Lists
pub mod Standing
pub mod Stepping
pub mod Fitting
pub mod KnownAnswers
pub mod Columns
