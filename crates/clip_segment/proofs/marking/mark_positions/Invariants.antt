use Rattle.std.proofs.Common.{◌≡◌, ℕ, ◌<◌, ◌||◌, false, nat_eq, length, get_or, take}
use Rattle.std.specs.List.{list_any}
use Rattle.clip_segment.proofs.marking.mark_positions.Given as goal

abbrev pub invariant-loop-position : goal.invariant-loop-position
invariant-loop-position l = record {
  long : length l.marks ≡ length l.fn.marks;
  marked : (n : ℕ) → n < length l.fn.marks
      → get_or l.marks n false ≡ (get_or l.fn.marks n false || list_any (nat_eq n) (take l.position-index l.positions));
}
