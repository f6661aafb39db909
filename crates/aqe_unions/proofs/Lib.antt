pub mod ColumnSteps
pub mod KindSteps
pub mod SideSteps
pub mod UnionSteps
