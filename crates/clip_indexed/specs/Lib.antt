pub mod Segment
pub mod Selecting
pub mod Steps
