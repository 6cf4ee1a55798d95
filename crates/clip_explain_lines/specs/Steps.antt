-- Stepping stones of proofs.
pub mod Asking
pub mod Explainers
pub mod Forward
pub mod LineFaults
pub mod Members
pub mod Plain
pub mod Serving
