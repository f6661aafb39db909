pub mod Forms
pub mod Calm
pub mod Laws
