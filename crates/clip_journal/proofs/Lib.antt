pub mod Chains
pub mod Fronts
pub mod Heads
pub mod Moments
pub mod Spelled
pub mod Whole
