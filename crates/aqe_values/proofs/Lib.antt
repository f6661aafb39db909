mod KnownAnswers
pub mod Sortedness
pub mod TotalOrders
pub mod Words
