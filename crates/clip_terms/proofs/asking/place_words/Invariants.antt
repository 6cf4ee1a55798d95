use Rattle.std.proofs.Common.{◌≡◌, ◌++◌, All, map, length, take, drop, None, option_map}
use Rattle.std.specs.Arc.{arc_str_bytes}
use Rattle.clip_extract.specs.Keys.{Word}
use Rattle.clip_terms.specs.Steps.KeysByField.{differing}
use Rattle.clip_terms.specs.Steps.Places.{IsPlaced, EndsWith}
use Rattle.clip_terms.specs.Steps.WordKeys.{keys_in, AreKept}
use Rattle.clip_terms.proofs.asking.place_words.Given as goal

abbrev pub invariant-loop-place : goal.invariant-loop-place
invariant-loop-place l = record {
  field : l.keys.field ≡ l.fn.keys.field;
  kept : AreKept l.keys;
  keys : keys_in l.keys
      ++ map (Word (arc_str_bytes l.fn.keys.field.now))
      (differing (option_map (λ p. p.0) l.last) (map (λ p. p.0) (drop l.place l.postings)))
      ≡ keys_in l.fn.keys
      ++ map (Word (arc_str_bytes l.fn.keys.field.now)) (differing None (map (λ p. p.0) l.postings));
  last : EndsWith (arc_str_bytes l.fn.keys.field.now) (option_map (λ p. p.0) l.last) (keys_in l.keys);
  long : length l.places.items ≡ length l.fn.places.items;
  placed : All (IsPlaced (arc_str_bytes l.fn.keys.field.now) (keys_in l.keys) l.places.items)
      (take l.place l.postings);
}
