pub mod HidingSteps
pub mod PositionSteps
pub mod SortingSteps
pub mod OrderSteps
pub mod PlanSteps
pub mod SortedPlans
