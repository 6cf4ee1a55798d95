pub mod Devices
pub mod Giving
pub mod Outcome
pub mod Steps
