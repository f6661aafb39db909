pub mod Keys
pub mod Several
pub mod Spreads
pub mod Places
