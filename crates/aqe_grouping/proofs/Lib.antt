pub mod PartSteps
pub mod FormSteps
pub mod ChainSteps
pub mod SpreadSteps
pub mod PlaceSteps
pub mod PositionPlaces
