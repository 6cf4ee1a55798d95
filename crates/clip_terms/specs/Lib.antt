pub mod FieldTerms
pub mod Reading
pub mod Spots
pub mod Terms
pub mod Steps
