pub mod Tests
pub mod Chains
pub mod NumbersAlone
pub mod MissingLevels
