pub mod Command
pub mod Statuses
pub mod Loading
pub mod Course
pub mod Opening
pub mod Ending
pub mod Laws
