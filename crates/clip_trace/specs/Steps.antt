-- Stepping stones: a tracer and its batches inside, outlines of the lines of a trace, and how they are answered.
pub mod Batch
pub mod TraceOutline
pub mod TraceServer
pub mod Tracer
