pub mod KeywordLemmas
mod KnownAnswers
pub mod OneExpression
pub mod OneQuery
