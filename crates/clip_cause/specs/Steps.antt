-- Definitions that lead the proofs.
pub mod Listed
pub mod Ordered
pub mod Sites
pub mod Telling
