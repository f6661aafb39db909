pub mod AddedSteps
pub mod CallLevels
pub mod Once
