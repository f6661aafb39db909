pub mod NameFacts
pub mod FolderFacts
pub mod LoadFacts
pub mod LoadedFacts
pub mod CauseFacts
pub mod IndexFacts
pub mod ShapeFacts
