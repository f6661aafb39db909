pub mod Counted
pub mod Later
pub mod ReadBack
pub mod Made
pub mod Needed
pub mod KnownAnswers
