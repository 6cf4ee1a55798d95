pub mod Flagged
pub mod Found
pub mod Indexes
pub mod Sent
