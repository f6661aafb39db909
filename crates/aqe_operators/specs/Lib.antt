pub mod Lent
pub mod Forms
pub mod Gathering
