pub mod Placing
pub mod Counted
pub mod Picked
pub mod InOrder
