pub mod Asked
pub mod Needed
pub mod States
pub mod Known
pub mod Restrictions
pub mod LegalRecord
pub mod Laws
pub mod Steady
