pub mod QuerySteps
pub mod StepLemmas
pub mod Turns
