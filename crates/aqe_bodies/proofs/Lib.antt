pub mod Carried
pub mod MadeRuns
pub mod Named
