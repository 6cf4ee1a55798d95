pub mod Near
pub mod Steps
