pub mod Ready
pub mod Makings
pub mod After
pub mod Held
pub mod Next
pub mod Laws
