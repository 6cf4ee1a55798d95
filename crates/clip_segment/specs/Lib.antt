pub mod Index
pub mod Segment
pub mod Steps
