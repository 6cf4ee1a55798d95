-- Private fields, as they are kept and as contracts see them; no public clause cites it.
pub mod AlertView
pub mod EntryView
pub mod FoundHits
pub mod KeptReading
pub mod StandingView
