use Rattle.std.proofs.Common.{◌≡◌, ℕ, ◌<◌, ◌||◌, nat_eq, length, take}
use Rattle.std.specs.List.{list_any}
use Rattle.clip_segment.specs.Steps.Parts.{flag_at}
use Rattle.clip_segment.proofs.kept_terms.set_all.Given as goal

abbrev pub invariant-loop-number : goal.invariant-loop-number
invariant-loop-number l = record {
  long : length l.flags.items ≡ length l.fn.flags.items;
  flags : (n : ℕ) → n < length l.fn.flags.items
      → flag_at l.flags.items n ≡ (flag_at l.fn.flags.items n || list_any (nat_eq n) (take l.number-index l.numbers));
}
