pub mod Found
pub mod Numbered
pub mod Refusals
pub mod Schedules
pub mod TraceRequestLaw
pub mod Traced
