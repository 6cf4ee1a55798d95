use Rattle.std.proofs.Common.{◌≡◌, ℕ, ◌<◌, ◌≤◌, ◌-◌, map, get_or, Less, Greater}
use Rattle.clip_words.specs.Order.{bytes_cmp}
use Rattle.clip_extract.specs.Keys.{KeyValue, key_of, text_of}
use Rattle.clip_terms.proofs.field_terms.place_among.Given as goal

abbrev pub invariant-loop-low : goal.invariant-loop-low
invariant-loop-low l = record {
  from : l.part.start ≤ l.low;
  upto : l.high ≤ l.part.end;
  below : (n : ℕ) (d : KeyValue) → l.part.start ≤ n → n < l.low
      → bytes_cmp (text_of (get_or (map key_of l.keys) n d)) l.sought ≡ Less;
  above : (n : ℕ) (d : KeyValue) → l.high ≤ n → n < l.part.end
      → bytes_cmp (text_of (get_or (map key_of l.keys) n d)) l.sought ≡ Greater;
}

abbrev pub decreases-loop-low : goal.decreases-loop-low
decreases-loop-low l = l.high - l.low
