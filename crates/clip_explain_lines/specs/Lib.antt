pub mod Asked
pub mod LineTold
pub mod Replied
pub mod SpansData
pub mod Steps
pub mod Told
pub mod TreeData
