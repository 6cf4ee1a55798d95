pub mod Opened
pub mod Whose
