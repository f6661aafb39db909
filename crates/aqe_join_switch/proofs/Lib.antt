pub mod Built
pub mod KnownAnswers
