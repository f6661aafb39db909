pub mod ColumnLists
pub mod ColumnSteps
pub mod TableSteps
pub mod JoinSteps
