pub mod Chain
pub mod PartReadings
pub mod JoinKinds
pub mod Rules
pub mod TableReadings
pub mod SentenceReadings
pub mod Parsed
