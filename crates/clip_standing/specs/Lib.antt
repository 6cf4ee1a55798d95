pub mod Alerts
pub mod Command
pub mod Standing
pub mod Steps
