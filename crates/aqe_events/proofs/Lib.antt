mod KnownAnswers
mod OneReading
