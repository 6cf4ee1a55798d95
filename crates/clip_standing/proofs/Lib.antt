pub mod Clones
pub mod Sent
