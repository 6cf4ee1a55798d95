-- Stepping stones of the proofs.
pub mod Held
pub mod Positions
