pub mod Found
pub mod LineMeaning
pub mod Refusal
pub mod Reply
pub mod Request
pub mod Said
pub mod Steps
