-- What the proofs of this crate go through; no public clause cites it.
pub mod Fronts
pub mod Groups
pub mod Leaves
pub mod Seconds
