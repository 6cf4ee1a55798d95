-- What the proofs of this crate go through; no public clause cites it.
pub mod Fronts
pub mod TextsView
