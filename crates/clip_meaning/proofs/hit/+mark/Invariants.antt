use Rattle.std.proofs.Common.{◌≡◌, ℕ, ◌<◌, ◌||◌, length, get_or, drop}
use Rattle.std.specs.List.{list_any}
use Rattle.clip_meaning.specs.Steps.Marks.{is_up}
use Rattle.clip_meaning.proofs.Marks.{asked}
use Rattle.clip_meaning.proofs.hit.+mark.Given as goal

abbrev pub invariant-loop-occur : goal.invariant-loop-occur
invariant-loop-occur l = record {
  long : length l.flags ≡ length l.fn.flags;
  raised : (k : ℕ) → k < length l.fn.flags
      → (is_up (get_or l.flags k 0) || list_any (asked l.field k) (drop l.occur-index l.occur-items))
      ≡ (is_up (get_or l.fn.flags k 0) || list_any (asked l.field k) l.occur-items);
}
