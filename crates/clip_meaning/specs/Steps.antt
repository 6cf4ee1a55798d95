-- What the proofs of this crate go through; of these public clauses cite Marks alone.
pub mod Flags
pub mod Marks
pub mod Occurrences
pub mod PostingsView
pub mod Searches
pub mod Tally
