pub mod Measures
pub mod Totals
