pub mod FieldFacts
pub mod RecordFacts
pub mod RowFacts
