-- Private fields as contracts see them; no public clause cites it.
pub mod SegmentView
