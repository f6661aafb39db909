pub mod Runs
pub mod Covering
pub mod Steps
pub mod KnownAnswers
