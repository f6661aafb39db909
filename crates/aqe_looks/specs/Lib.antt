pub mod Numbers
pub mod Missing
