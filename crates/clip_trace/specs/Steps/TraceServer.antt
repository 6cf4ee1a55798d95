-- How the lines of a trace are answered.
use Rattle.clip_trace.specs.Schedule.{Stand}
use Rattle.clip_trace.specs.declared.trace_session.TraceServer.{TraceServer}

-- how things stand with a tracer
abbrev pub stand_at : TraceServer × Unit {0} → Stand
stand_at s = s.0.tracer
