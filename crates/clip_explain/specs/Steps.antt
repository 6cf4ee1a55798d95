pub mod Cutting
pub mod Fronts
pub mod Searching
