pub mod WidthSteps
pub mod Tables
