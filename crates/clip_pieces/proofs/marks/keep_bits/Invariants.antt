use Rattle.std.proofs.Common.{◌≡◌, ℕ, ◌<◌, ◌≤◌, length, get_or}
use Rattle.std.specs.Int.Bits.{bit_and}
use Rattle.clip_pieces.proofs.marks.keep_bits.Given as goal

abbrev pub invariant-loop-place : goal.invariant-loop-place
invariant-loop-place l = record {
  long : length l.words.items ≡ length l.fn.words.items;
  done : (k : ℕ) → k < l.place → get_or l.words.items k 0 ≡ bit_and (get_or l.fn.words.items k 0) (get_or l.others k 0);
  rest : (k : ℕ) → l.place ≤ k → get_or l.words.items k 0 ≡ get_or l.fn.words.items k 0;
}
