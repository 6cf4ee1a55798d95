use Rattle.std.proofs.Common.{◌≡◌, take}
use Rattle.clip_engine.specs.Explained.{spans_bytes}
use Rattle.clip_engine.proofs.explained.bytes_of_spans.Given as goal

abbrev pub invariant-loop-span : goal.invariant-loop-span
invariant-loop-span l = l.bytes.items ≡ spans_bytes (take l.span-index l.spans)
