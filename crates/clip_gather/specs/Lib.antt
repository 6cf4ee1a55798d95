pub mod Gather
pub mod Merged
pub mod Steps
