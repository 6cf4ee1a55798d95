use Rattle.std.proofs.Common.{◌≡◌, ℕ, List, ◌++◌, None, map, length, ap, ap₂, sym, ◌∙◌, arith, Bor, Global}
use Rattle.std.specs.Arc.{arc_str_bytes}
use Rattle.std.specs.declared.sync.ArcStr.{ArcStr}
use Rattle.clip_extract.specs.Keys.{KeyValue, Word}
use Rattle.clip_terms.specs.Terms.{term_at}
use Rattle.clip_terms.specs.Steps.KeysByField.{differing, ordered_keys}
use Rattle.clip_terms.specs.Steps.WordKeys.{keys_in}
use Rattle.clip_terms.proofs.KeysByField.{differing_words}
use Rattle.clip_terms.proofs.PlacedWords.{of_words, all_placed, words_at}
use Rattle.clip_terms.proofs.asking.AskedField.of.Goals as goal

pub place_words-requires-clause-postings : goal.place_words-requires-clause-postings
place_words-requires-clause-postings c =
    let words = c.args.field.now.1 in
    let long : length words ≡ length c.in_ok-places.places.items =
    omega (
      arith,
      ap length c.words.ensures,
      c.len-count.ensures,
      c.in_ok-places.ensures.len,
    ) in
    of_words words c.postings.result (length c.in_ok-places.places.items) c.postings.ensures.words long

pub invariant_of-result : goal.invariant_of-result
invariant_of-result c =
    let field = c.args.field.now in
    let first = c.in_ok-keys.keys in
    let name : arc_str_bytes first.field.now ≡ field.0 = c.in_ok-keys.ensures.field ∙ c.name.ensures in
    let ps = c.postings.result in
    let new = c.place_words.new.keys in
    let places = c.place_words.new.places.items in
    let words = differing_words field.1 ps c.postings.ensures.words c.postings.ensures.sorted in
    let keys : keys_in new ≡ ordered_keys field =
    c.in_ok-place_words.ensures.keys
    ∙ ap (λ (ks : List KeyValue). ks ++ map (Word (arc_str_bytes first.field.now)) (differing None (words_at ps)))
    c.in_ok-keys.ensures.none
    ∙ ap₂ (λ (name : List ℕ) (ws : List (List ℕ)). map (Word name) ws) name words in
    let long : length places ≡ length field.1 =
    omega (
      arith,
      c.in_ok-place_words.ensures.long,
      ap length c.words.ensures,
      c.len-count.ensures,
      c.in_ok-places.ensures.len,
    ) in
    record {
      name = ap (λ (f : Bor (ArcStr Global)). arc_str_bytes f.now) c.in_ok-place_words.ensures.field ∙ name;
      keys = keys;
      kept = c.in_ok-place_words.ensures.kept;
      places = ap (λ (ks : List KeyValue). map (term_at ks) places) (sym keys)
          ∙ all_placed (arc_str_bytes first.field.now) (keys_in new) places field.1 ps c.postings.ensures.words long
          c.in_ok-place_words.ensures.placed
          ∙ ap (λ (name : List ℕ). map (Word name) field.1) name;
    }
