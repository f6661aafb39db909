pub mod ReadingSteps
pub mod ReplacingSteps
pub mod Values
pub mod Together
pub mod Read
