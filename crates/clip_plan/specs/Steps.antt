-- What the proofs of this crate go through, and private fields as contracts see them; no public clause cites it.
pub mod Outlines
pub mod Plans
pub mod Judging
pub mod Naming
