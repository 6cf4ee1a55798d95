use Rattle.std.proofs.Common.{◌≡◌, ℕ, ◌-◌, ◌+◌, ◌<◌, ◌≤◌, List, ◌++◌, All, option_map, map, length, take, set}
use Rattle.std.proofs.Common.{length-set, append-nil, refl, ap, sym, ◌∙◌, subst, Bor, Global}
use Rattle.std.specs.Arc.{arc_str_bytes}
use Rattle.std.specs.declared.sync.ArcStr.{ArcStr}
use Rattle.std.proofs.lemmas.List.{take_all, drop_all}
use Rattle.std.proofs.lemmas.List.Elements.{All-nil}
use Rattle.clip_extract.specs.Keys.{Word}
use Rattle.clip_terms.specs.Steps.KeysByField.{differing, key_added}
use Rattle.clip_terms.specs.Steps.Places.{IsPlaced}
use Rattle.clip_terms.specs.Steps.WordKeys.{keys_in}
use Rattle.clip_terms.proofs.PlacedWords.{Place, read_itself, grown_by, counted, words_at, keys_more, ends_more}
use Rattle.clip_terms.proofs.PlacedWords.{position_within, placed_more}
use Rattle.clip_terms.proofs.asking.place_words.Goals as goal

pub loop-place-init : goal.loop-place-init
loop-place-init c = record {
  field = refl;
  kept = c.requires.kept;
  keys = refl;
  last = tt;
  long = refl;
  placed =
      All-nil (IsPlaced (arc_str_bytes c.args.keys.now.field.now) (keys_in c.args.keys.now) c.args.places.now.items);
}

pub add_differing-requires : goal.add_differing-requires
add_differing-requires c = c.loop-place.invariant.kept

pub overflow_sub-len : goal.overflow_sub-len
overflow_sub-len c =
    let name = arc_str_bytes c.args.keys.now.field.now in
    let last = option_map (λ (p : Place). p.0) c.loop-place.last in
    let old = keys_in c.loop-place.keys in
    let new = keys_in c.add_differing.new.keys in
    let x = c.at-posting.result in
    let same = ap (λ (f : Bor (ArcStr Global)). arc_str_bytes f.now) c.loop-place.invariant.field in
    let grown : new ≡ old ++ key_added name last x.0 =
    grown_by c.as_ref.result c.loop-place.last (arc_str_bytes c.loop-place.keys.field.now) name x.0 old new
    c.as_ref.ensures.value same c.in_ok-add_differing.ensures.added in
    let some : 0 < length new = (ends_more name x.0 last old new c.loop-place.invariant.last grown).0 in
    subst (λ (n : ℕ). 0 < n) (sym c.len.ensures) some

pub index_mut-requires : goal.index_mut-requires
index_mut-requires c =
    let ps = c.args.postings.now in
    let i = c.loop-place.place in
    let x = c.at-posting.result in
    let lt : i < length ps = subst (λ n. i < n) c.len-place-end.ensures c.loop-place-test.true in
    subst (λ (n : ℕ). n < c.loop-place.places.len) (sym c.position.ensures)
    (subst (λ (n : ℕ). x.1 < n) (sym c.loop-place.invariant.long
    ∙ counted c.loop-place.places)
    (position_within ps (length c.args.places.now.items) i x c.requires.postings lt
    (read_itself ps i x lt c.at-posting.ensures)))

pub loop-place-preserved : goal.loop-place-preserved
loop-place-preserved c =
    let name = arc_str_bytes c.args.keys.now.field.now in
    let last = option_map (λ (p : Place). p.0) c.loop-place.last in
    let old = keys_in c.loop-place.keys in
    let new = keys_in c.add_differing.new.keys in
    let places = c.loop-place.places.items in
    let ps = c.args.postings.now in
    let i = c.loop-place.place in
    let x = c.at-posting.result in
    let lt : i < length ps = subst (λ n. i < n) c.len-place-end.ensures c.loop-place-test.true in
    let is = read_itself ps i x lt c.at-posting.ensures in
    let before = c.loop-place.invariant in
    let same = ap (λ (f : Bor (ArcStr Global)). arc_str_bytes f.now) before.field in
    let grown : new ≡ old ++ key_added name last x.0 =
    grown_by c.as_ref.result c.loop-place.last (arc_str_bytes c.loop-place.keys.field.now) name x.0 old new
    c.as_ref.ensures.value same c.in_ok-add_differing.ensures.added in
    let place : c.len.result - 1 ≡ length new - 1 = ap (λ n. n - 1) c.len.ensures in
    record {
      field = c.in_ok-add_differing.ensures.field ∙ before.field;
      kept = c.in_ok-add_differing.ensures.kept;
      keys = keys_more name last old new _ ps i x lt is grown before.keys;
      last = ends_more name x.0 last old new before.last grown;
      long = length-set places _ _ ∙ before.long;
      placed =
          subst (λ (n : ℕ). All (IsPlaced name new (set places n (c.len.result - 1))) (take (i + 1) ps))
          (sym c.position.ensures)
          (placed_more name last old new places (c.len.result - 1) (length c.args.places.now.items) ps i x
          c.requires.postings before.long lt is grown place before.last before.placed);
    }

pub returns-clause-field : goal.returns-clause-field
returns-clause-field c = c.loop-place.invariant.field

pub returns-clause-kept : goal.returns-clause-kept
returns-clause-kept c = c.loop-place.invariant.kept

pub returns-clause-keys : goal.returns-clause-keys
returns-clause-keys c =
    let name = arc_str_bytes c.args.keys.now.field.now in
    let new = keys_in c.loop-place.keys in
    let last = option_map (λ (p : Place). p.0) c.loop-place.last in
    let past = subst (λ n. n ≤ c.loop-place.place) c.len-place-end.ensures c.loop-place-test.false in
    sym (append-nil new)
    ∙ ap (λ (ps : List Place). new ++ map (Word name) (differing last (words_at ps)))
    (sym (drop_all c.loop-place.place c.args.postings.now past))
    ∙ c.loop-place.invariant.keys

pub returns-clause-placed : goal.returns-clause-placed
returns-clause-placed c =
    let past = subst (λ n. n ≤ c.loop-place.place) c.len-place-end.ensures c.loop-place-test.false in
    subst (λ (ps : List Place).
    All (IsPlaced (arc_str_bytes c.args.keys.now.field.now) (keys_in c.loop-place.keys)
    c.loop-place.places.items) ps)
    (take_all c.loop-place.place c.args.postings.now past)
    c.loop-place.invariant.placed
