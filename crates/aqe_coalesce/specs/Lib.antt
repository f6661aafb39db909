pub mod Target
pub mod Coalesced
pub mod Laws
