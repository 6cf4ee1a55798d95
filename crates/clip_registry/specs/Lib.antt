-- which segments are merged next, and what articles pay for it, for the crates above
pub use Rattle.clip_merge.specs.Plan
pub use Rattle.clip_merge.specs.Price
pub mod Merging
pub mod Steps
pub mod RegistryState
