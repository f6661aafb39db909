pub mod OneRecord
pub mod Answers
pub mod KnownAnswers
pub mod Born
pub mod Samples
pub mod StagesRun
