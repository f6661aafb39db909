-- what is to be believed, in the order to read it
pub mod Fields
pub mod FileRows
-- what serves private functions and their proofs
pub mod Records
