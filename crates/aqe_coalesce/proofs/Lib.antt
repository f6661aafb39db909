pub mod Sums
pub mod Filling
pub mod Unique
pub mod SomeGroups
pub mod KnownAnswers
