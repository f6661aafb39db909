pub mod PlanSteps
pub mod ReadingSteps
pub mod OrderSteps
pub mod SelectSteps
