pub mod TextFacts
pub mod TextLaw
pub mod Cutting
