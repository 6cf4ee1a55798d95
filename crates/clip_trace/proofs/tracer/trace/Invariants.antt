use Rattle.std.proofs.Common.{◌≡◌, map, length}
use Rattle.std.specs.List.{zip}
use Rattle.clip_trace.specs.Event.{event_of, answer_of}
use Rattle.clip_trace.specs.Schedule.{IsDue, stand}
use Rattle.clip_trace.proofs.tracer.trace.Given as goal

-- the steps so far are due, and things stand as they left them
abbrev pub invariant-loop-event : goal.invariant-loop-event
invariant-loop-event l = record {
  each : length l.answers.items ≡ length l.yielded;
  due : IsDue (zip (map event_of l.yielded) (map answer_of l.answers.items));
  stands : stand (zip (map event_of l.yielded) (map answer_of l.answers.items)) ≡ l.tracer;
}
