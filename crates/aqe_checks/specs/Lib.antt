pub mod Planning
pub mod Serving
