pub mod Alerts
pub mod Candidates
pub mod Due
pub mod Steps
