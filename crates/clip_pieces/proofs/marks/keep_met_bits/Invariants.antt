use Rattle.std.proofs.Common.{◌≡◌, ℕ, ◌<◌, ◌≤◌, ◌&&◌, ◌||◌, not, length, get_or}
use Rattle.clip_pieces.specs.Steps.Bits.{is_set}
use Rattle.clip_pieces.proofs.marks.keep_met_bits.Given as goal

abbrev pub invariant-loop-place : goal.invariant-loop-place
invariant-loop-place l = record {
  long : length l.words.items ≡ length l.fn.words.items;
  done : (k : ℕ) → k < l.place → (bit : ℕ) → bit < 64
      → is_set (get_or l.words.items k 0) bit
      ≡ (is_set (get_or l.fn.words.items k 0) bit
      && (is_set (get_or l.has.items k 0) bit || not (is_set (get_or l.needs.items k 0) bit)));
  rest : (k : ℕ) → l.place ≤ k → get_or l.words.items k 0 ≡ get_or l.fn.words.items k 0;
}
