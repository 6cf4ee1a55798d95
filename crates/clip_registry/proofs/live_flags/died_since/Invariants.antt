use Rattle.std.proofs.Common.{◌≡◌, ℕ, Bool, map, take}
use Rattle.std.specs.Arc.{arc_value}
use Rattle.clip_indexed.specs.Segment.{all_entries, seqs_of}
use Rattle.clip_registry.specs.Steps.LiveFlags.{died, flags_by}
use Rattle.clip_registry.proofs.live_flags.died_since.Given as goal

abbrev pub invariant-loop-place : goal.invariant-loop-place
invariant-loop-place g l = (is was : ℕ → Bool) → l.now ≡ flags_by is (map arc_value l.sources)
    → l.begun ≡ flags_by was (map arc_value l.sources)
    → l.seqs.items ≡ seqs_of (died is was (all_entries (map arc_value (take l.place l.sources))))
