pub mod NameSteps
pub mod OutputSteps
