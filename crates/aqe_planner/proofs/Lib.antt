pub mod Rows
pub mod JoinRows
pub mod LimitRows
pub mod SortRows
pub mod Below
pub mod WellFormed
pub mod NoReads
