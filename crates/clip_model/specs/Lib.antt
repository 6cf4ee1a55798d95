pub mod Alerts
pub mod ById
pub mod History
pub mod Laws
pub mod Shards
pub mod Standing
pub mod Steps
pub mod Tenants
