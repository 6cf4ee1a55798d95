pub mod Keys
pub mod Fronts
pub mod Extraction
pub mod Covering
pub mod Steps
pub mod Lengths
