-- The keys of an article, made field by field from sorted words.
use Rattle.std.proofs.Common.{◌≡◌, ℕ, Bool, true, false, cond, ◌||◌, List, [], ◌∷◌, map, flat_map, Some, None}
use Rattle.std.proofs.Common.{IsPermutation, refl, sym, ap, ◌∙◌, subst, is_lt}
use Rattle.std.specs.FinMap as finite
use Rattle.std.specs.FinMap.Entries.{is_sorted, below_all}
use Rattle.std.specs.List.{list_any, dedup, dedup_from, AllByRecursion}
use Rattle.std.specs.List.Sorted.{IsSorted, IsSortedByKey, IsStrictlySortedBy}
use Rattle.std.specs.Ordering.{eq_by_cmp, ordering_then}
use Rattle.std.specs.Cmp.{IsEquivalence, tied_itself, Equal-is, eq_by_cmp_equiv}
use Rattle.std.specs.Cmp.Lexicographic.{nat_list_cmp_total, texts_ties}
use Rattle.std.specs.Str.{bytes_eq}
use Rattle.std.specs.declared.cmp.Ordering.TheVariants.{Less, Equal}
use Rattle.std.proofs.lemmas.Bool.{and_parts}
use Rattle.std.proofs.lemmas.List.Folds.{list_any-append}
use Rattle.std.proofs.lemmas.List.Kept.{IsStrictlySortedBy-dedup}
use Rattle.clip_words.specs.Order.{bytes_cmp}
use Rattle.clip_meaning.specs.Article.{Fields}
use Rattle.clip_meaning.specs.Index.{numbered}
use Rattle.clip_meaning.proofs.Fields.{bytes_exact}
use Rattle.clip_meaning.proofs.Numbered.{words_pass}
use Rattle.clip_extract.specs.Keys.{KeyValue, Any, Word, key_cmp, is_same}
use Rattle.clip_extract.specs.Covering.{field_keys}
use Rattle.clip_extract.proofs.Members.{any_map, any_deduped, less_from, keys_in_order, entries_in_order, strict_keys}
use Rattle.clip_extract.proofs.Members.{same_members, keys_members}
use Rattle.clip_extract.proofs.Order.{key_cmp_total, key_cmp_same}
use Rattle.clip_terms.specs.Reading.{word_part_keys}
use Rattle.clip_terms.specs.Steps.KeysByField.{words_in_order, ordered_keys, differing}
use Rattle.clip_terms.proofs.Strict.{sorted_mapped, all_appended, strict_append}

-- ---- sorted words, each once

-- the first is the last kept
abbrev repeats : List ℕ → List ℕ → Bool
repeats word last = bytes_eq last word

ties : (word last : List ℕ) → repeats word last ≡ eq_by_cmp bytes_cmp word last
ties word last = texts_ties last word ∙ (eq_by_cmp_equiv nat_list_cmp_total).symm last word

differs_on : (last : List ℕ) (ws : List (List ℕ)) → last ∷ differing (Some last) ws ≡ dedup_from repeats last ws
differs_on last [] = refl
differs_on last (w ∷ ws) =
    elim (bytes_eq last w) as (λ b. last ∷ cond b (differing (Some last) ws) (w ∷ differing (Some w) ws)
    ≡ cond b (dedup_from repeats last ws) (last ∷ dedup_from repeats w ws)) [
      | true ↦ differs_on last ws
      | false ↦ ap (λ xs. last ∷ xs) (differs_on w ws)
    ]

deduped : (ws : List (List ℕ)) → differing None ws ≡ dedup repeats ws
deduped [] = refl
deduped (w ∷ ws) = differs_on w ws

pub same_word : (x y : List ℕ) → repeats x y ≡ true → x ≡ y
same_word x y h = bytes_exact x y ((Equal-is (bytes_cmp x y)).0 (sym (ties x y) ∙ h))

abbrev Place : Type 0
Place = List ℕ × ℕ

abbrev words_at : List Place → List (List ℕ)
words_at ps = map (λ p. p.0) ps

repeats_laws : IsEquivalence repeats
repeats_laws = subst IsEquivalence (λ i x y. sym (ties x y) i) (eq_by_cmp_equiv nat_list_cmp_total)

-- of sorted postings, the words that differ are the field's words in order
pub differing_words : (ws : List (List ℕ)) (ps : List Place) → IsPermutation (numbered 0 ws) ps
    → IsSortedByKey (λ p. p.0) bytes_cmp ps → differing None (words_at ps) ≡ words_in_order ws
differing_words ws ps moved sorted =
    let rising : IsSorted bytes_cmp (words_at ps) =
    sorted_mapped (λ (p : Place). p.0) (λ v w. is_lt (bytes_cmp v w)) ps sorted in
    deduped (words_at ps)
    ∙ strict_keys nat_list_cmp_total bytes_exact (dedup repeats (words_at ps)) ws
    (IsStrictlySortedBy-dedup nat_list_cmp_total ties (words_at ps) rising)
    (λ q. any_deduped repeats_laws (λ w. w) same_word (eq_by_cmp bytes_cmp q) (words_at ps)
    ∙ any_map (eq_by_cmp bytes_cmp q) (λ (p : Place). p.0) ps
    ∙ words_pass (eq_by_cmp bytes_cmp q) ws ps moved)

-- ---- fields in order

word_below : (name v w : List ℕ) → bytes_cmp v w ≡ Less → key_cmp (Word name v) (Word name w) ≡ Less
word_below name v w less =
    ap (λ r. ordering_then r (ordering_then (bytes_cmp v w) Equal)) (tied_itself nat_list_cmp_total name)
    ∙ ap (λ r. ordering_then r Equal) less

words_below : (name v : List ℕ) (ws : List (List ℕ)) → AllByRecursion (λ w. bytes_cmp v w ≡ Less) ws
    → AllByRecursion (λ k. key_cmp (Word name v) k ≡ Less) (map (Word name) ws)
words_below name v [] all = tt
words_below name v (w ∷ ws) all = (word_below name v w all.0, words_below name v ws all.1)

pub words_rise : (name : List ℕ) (ws : List (List ℕ)) → IsStrictlySortedBy bytes_cmp ws
    → IsStrictlySortedBy key_cmp (map (Word name) ws)
unfolding IsStrictlySortedBy
words_rise name [] rising = tt
words_rise name (w ∷ ws) rising = (words_below name w ws rising.0, words_rise name ws rising.1)

-- the words of a field are below those of the fields after it
field_below : (name word : List ℕ) (next : List ℕ) (ws : List (List ℕ)) → bytes_cmp name next ≡ Less
    → AllByRecursion (λ k. key_cmp (Word name word) k ≡ Less) (map (Word next) ws)
field_below name word next [] less = tt
field_below name word next (w ∷ ws) less =
    (ap (λ r. ordering_then r (ordering_then (bytes_cmp word w) Equal)) less, field_below name word next ws less)

fields_below : (name word : List ℕ) (fields : List (List ℕ × List (List ℕ))) → below_all bytes_cmp name fields ≡ true
    → AllByRecursion (λ k. key_cmp (Word name word) k ≡ Less) (flat_map ordered_keys fields)
fields_below name word [] below = tt
fields_below name word (f ∷ fields) below =
    let parts = and_parts (is_lt (bytes_cmp name f.0)) _ below in
    all_appended (λ k. key_cmp (Word name word) k ≡ Less) (ordered_keys f) (flat_map ordered_keys fields)
    (field_below name word f.0 (words_in_order f.1) (less_from (bytes_cmp name f.0) parts.0))
    (fields_below name word fields parts.1)

all_below : (name : List ℕ) (ws : List (List ℕ)) (fields : List (List ℕ × List (List ℕ)))
    → below_all bytes_cmp name fields ≡ true
    → AllByRecursion (λ x. AllByRecursion (λ y. key_cmp x y ≡ Less) (flat_map ordered_keys fields)) (map (Word name) ws)
all_below name [] fields below = tt
all_below name (w ∷ ws) fields below = (fields_below name w fields below, all_below name ws fields below)

fields_rise : (fields : List (List ℕ × List (List ℕ))) → is_sorted bytes_cmp fields ≡ true
    → IsStrictlySortedBy key_cmp (flat_map ordered_keys fields)
unfolding IsStrictlySortedBy
fields_rise [] sorted = tt
fields_rise (f ∷ fields) sorted =
    let parts = and_parts (below_all bytes_cmp f.0 fields) _ sorted in
    strict_append key_cmp (ordered_keys f) (flat_map ordered_keys fields)
    (words_rise f.0 (words_in_order f.1) (keys_in_order bytes_cmp _)) (fields_rise fields parts.1)
    (all_below f.0 (words_in_order f.1) fields parts.0)

-- Any is below all words
any_below_words : (name : List ℕ) (ws : List (List ℕ)) → AllByRecursion (λ k. key_cmp Any k ≡ Less) (map (Word name) ws)
any_below_words name [] = tt
any_below_words name (w ∷ ws) = (refl, any_below_words name ws)

any_below : (fields : List (List ℕ × List (List ℕ)))
    → AllByRecursion (λ k. key_cmp Any k ≡ Less) (flat_map ordered_keys fields)
any_below [] = tt
any_below (f ∷ fields) =
    all_appended (λ k. key_cmp Any k ≡ Less) (ordered_keys f) (flat_map ordered_keys fields)
    (any_below_words f.0 (words_in_order f.1)) (any_below fields)

any_rises : (fields : List (List ℕ × List (List ℕ))) → is_sorted bytes_cmp fields ≡ true
    → IsStrictlySortedBy key_cmp (Any ∷ flat_map ordered_keys fields)
unfolding IsStrictlySortedBy
any_rises fields sorted = (any_below fields, fields_rise fields sorted)

-- ---- the same keys

same_field : (t : KeyValue → Bool) (field : List ℕ × List (List ℕ)) → list_any t (ordered_keys field)
    ≡ list_any t (field_keys field)
same_field t field =
    any_map t (Word field.0) (words_in_order field.1)
    ∙ same_members nat_list_cmp_total bytes_exact (λ w. t (Word field.0 w)) (words_in_order field.1) field.1
    (λ q. keys_members nat_list_cmp_total bytes_exact q field.1)
    ∙ sym (any_map t (Word field.0) field.1)

same_fields : (t : KeyValue → Bool) (fields : List (List ℕ × List (List ℕ)))
    → list_any t (flat_map ordered_keys fields) ≡ list_any t (flat_map field_keys fields)
same_fields t [] = refl
same_fields t (f ∷ fields) =
    list_any-append t (ordered_keys f) (flat_map ordered_keys fields)
    ∙ (λ i. same_field t f i || same_fields t fields i)
    ∙ sym (list_any-append t (field_keys f) (flat_map field_keys fields))

-- an article's keys but for the fronts in order are those of its fields in order, each with its words in order
pub keys_by_field : (fields : Fields) → Any ∷ flat_map ordered_keys (finite.entries fields) ≡ word_part_keys fields
keys_by_field fields =
    strict_keys key_cmp_total key_cmp_same (Any ∷ flat_map ordered_keys (finite.entries fields)) (Any
    ∷ flat_map field_keys (finite.entries fields))
    (any_rises (finite.entries fields) (entries_in_order bytes_cmp fields))
    (λ q. ap (λ b. is_same q Any || b) (same_fields (is_same q) (finite.entries fields)))
