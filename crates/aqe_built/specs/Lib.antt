pub mod Forms
pub mod Built
