pub mod LoadedTables
pub mod Estimates
