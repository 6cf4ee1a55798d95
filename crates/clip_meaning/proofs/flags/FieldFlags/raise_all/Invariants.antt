use Rattle.std.proofs.Common.{◌≡◌, ℕ, ◌<◌, ◌||◌, nat_eq, length, get_or, drop}
use Rattle.std.specs.List.{list_any}
use Rattle.clip_meaning.specs.Steps.Marks.{is_up}
use Rattle.clip_meaning.proofs.flags.FieldFlags.raise_all.Given as goal

abbrev pub invariant-loop-occurrence : goal.invariant-loop-occurrence
invariant-loop-occurrence l = record {
  long : length l.self ≡ length l.fn.self;
  raised : (k : ℕ) → k < length l.fn.self
      → (is_up (get_or l.self k 0) || list_any (λ o. nat_eq k o.position) (drop l.occurrence-index l.found))
      ≡ (is_up (get_or l.fn.self k 0) || list_any (λ o. nat_eq k o.position) l.found);
}
