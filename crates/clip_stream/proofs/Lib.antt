pub mod Bytes
pub mod Cuts
pub mod Faults
pub mod Feeds
pub mod Flows
pub mod Fuel
pub mod LinesRead
