-- To be believed, in the order to read them.
pub mod Statements
pub mod Terminals
pub mod Settings
pub mod Depth
pub mod Nesting
pub mod QueryNesting
pub mod Laws
-- For the contracts of private functions alone.
pub mod Levels
pub mod QueryLevels
pub mod Measured
pub mod SettingSteps
pub mod Texts
