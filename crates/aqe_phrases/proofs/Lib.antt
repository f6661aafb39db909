pub mod Left
pub mod Taken
pub mod Leaves
pub mod Chains
pub mod Expressions
