pub mod Partitions
mod KnownAnswers
