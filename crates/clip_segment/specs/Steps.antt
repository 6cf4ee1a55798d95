-- Private fields as contracts see them, and steps of the work; no public clause cites it.
pub mod Ends
pub mod IndexView
pub mod LabelledView
pub mod Needed
pub mod Parts
pub mod ReadingView
pub mod SpotsView
