pub mod Places
pub mod Ends
pub mod Law
mod Rows
