-- A tracer as its fields hold it.
use Rattle.std.specs.Prelude.{eqb, map}
use Rattle.std.specs.List.{IsDistinct}
use Rattle.clip_trace.specs.Schedule.{Stand}
use Rattle.clip_trace.specs.declared.tracer.Tracer.TheInside.{Inside}

abbrev pub tracer_inside : Inside → Stand
tracer_inside t = record {
  history = t.registrar.history;
  merges = map (λ m. m.0) t.merges.items;
  batches = t.batches.items;
}

-- No two merges have one number, and no two batches.
pub record IsTracerInside (t : Inside) : Type 0 where
  pub merges : IsDistinct eqb (map (λ m. m.0) t.merges.items)
  pub batches : IsDistinct eqb (map (λ b. b.0) t.batches.items)
