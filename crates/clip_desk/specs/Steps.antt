-- Walks over update listeners; no public clause cites it.
pub mod Telling
