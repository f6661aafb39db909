pub mod Standing
pub mod Leaves
pub mod Serving
pub mod Laws
