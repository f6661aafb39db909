pub mod Ascending
pub mod EvenSums
pub mod OnePairing
pub mod KnownAnswers
