use Rattle.std.proofs.Common.{◌≡◌, ℕ, ◌+◌, ◌<◌, true, get_or}
use Rattle.std.specs.Ordering.{is_lt}
use Rattle.clip_meaning.specs.Steps.Occurrences.{order_of}
use Rattle.clip_meaning.specs.declared.index.Occurrence.{Occurrence}
use Rattle.clip_meaning.proofs.index.are_rising.Given as goal

abbrev pub invariant-loop-place : goal.invariant-loop-place
invariant-loop-place l = record {
  rising : (k : ℕ) (other : Occurrence) → k + 1 < l.place
      → is_lt (order_of l.words (get_or l.found k other) (get_or l.found (k + 1) other)) ≡ true;
}
