use Rattle.std.proofs.Common.{◌≡◌, ℕ, ◌+◌, ◌<◌, false, nat_eq, length, get_or, flat_map, take}
use Rattle.std.specs.List.{list_any, sum_by}
use Rattle.clip_segment.proofs.Answering.{list_at}
use Rattle.clip_segment.proofs.marking.marks_under.Given as goal

abbrev pub invariant-loop-number : goal.invariant-loop-number
invariant-loop-number l = record {
  long : length l.marks ≡ l.bound;
  marked : (n : ℕ) → n < l.bound
      → get_or l.marks n false ≡ list_any (nat_eq n) (flat_map (list_at l.lists) (take l.number-index l.numbers));
  counted : l.read ≡ l.fn.read + sum_by (λ n. length (list_at l.lists n)) (take l.number-index l.numbers);
}
