pub mod Served
pub mod Planning
pub mod BodySteps
pub mod StageSteps
