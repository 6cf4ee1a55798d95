use Rattle.std.proofs.Common.{ap, map}
use Rattle.clip_trace.proofs.Numbered.{distinct_none}
use Rattle.clip_trace.proofs.tracer.Tracer.new.Goals as goal

pub invariant_of-result : goal.invariant_of-result
invariant_of-result c = record {
  merges = distinct_none _ (ap (map (λ m. m.0)) c.new.ensures.items);
  batches =
      distinct_none _ (ap (map (λ b. b.0)) c.new-2.ensures.items);
}
