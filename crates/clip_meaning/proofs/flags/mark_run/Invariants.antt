use Rattle.std.proofs.Common.{◌≡◌, ℕ, ◌<◌, ◌≤◌, ◌||◌, ◌&&◌, nat_le, nat_lt, max, length, get_or}
use Rattle.clip_meaning.specs.Steps.Marks.{is_up}
use Rattle.clip_meaning.proofs.flags.mark_run.Given as goal

abbrev pub invariant-loop-position : goal.invariant-loop-position
invariant-loop-position l = record {
  long : length l.flags.items ≡ length l.fn.flags.items;
  reached : l.position ≤ max l.start l.end;
  raised : (k : ℕ) → k < length l.fn.flags.items → is_up (get_or l.flags.items k 0)
      ≡ (is_up (get_or l.fn.flags.items k 0) || (nat_le l.start k && nat_lt k l.position));
}
