pub mod PartialRows
