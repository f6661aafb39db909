pub mod Peace
pub mod Laws
