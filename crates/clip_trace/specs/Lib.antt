pub mod Event
pub mod Schedule
pub mod Steps
pub mod TraceLine
pub mod TraceOutcome
pub mod TraceRequest
