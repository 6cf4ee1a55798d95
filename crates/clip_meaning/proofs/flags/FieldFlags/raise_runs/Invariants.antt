use Rattle.std.proofs.Common.{◌≡◌, ℕ, ◌<◌, ◌||◌, Option, length, get_or, drop}
use Rattle.std.specs.List.{list_any}
use Rattle.clip_meaning.specs.Steps.Marks.{GivesStarts, is_up, is_within_run}
use Rattle.clip_meaning.proofs.flags.FieldFlags.raise_runs.Given as goal

abbrev pub invariant-loop-item : goal.invariant-loop-item
invariant-loop-item g l = record {
  long : length l.self ≡ length l.fn.self;
  raised : (start : _ → Option ℕ) → GivesStarts (goal.F-post g l.start_of) start → (k : ℕ) → k < length l.fn.self
      → (is_up (get_or l.self k 0)
      || list_any (λ x. is_within_run (start x) l.count k) (drop l.item-index l.items))
      ≡ (is_up (get_or l.fn.self k 0) || list_any (λ x. is_within_run (start x) l.count k) l.items);
}
