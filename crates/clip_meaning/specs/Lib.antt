pub mod Article
pub mod Hits
pub mod Index
pub mod Leads
pub mod Meaning
pub mod Steps
