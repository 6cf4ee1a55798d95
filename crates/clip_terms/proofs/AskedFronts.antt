-- The fronts that are asked for word by word are those of all words.
use Rattle.std.proofs.Common.{◌≡◌, ℕ, Bool, true, false, cond, ◌||◌, List, [], ◌∷◌, ◌++◌, ◌+◌, ◌<◌, nat_eq, Option}
use Rattle.std.proofs.Common.{None, Some, MatchOption, option_map, map, flat_map, length, take, drop, get_or}
use Rattle.std.proofs.Common.{option_to_list, IsPermutation, refl, sym, ap, ◌∙◌, subst, append_assoc}
use Rattle.std.specs.List.{list_any}
use Rattle.std.specs.List.Sorted.{IsStrictlySortedBy}
use Rattle.std.specs.Str.{bytes_eq, chars}
use Rattle.std.proofs.lemmas.List.{map-append, drop_more, take_more, flat_map_more}
use Rattle.std.proofs.lemmas.List.Elements.{All-same, All-append}
use Rattle.std.proofs.lemmas.List.Folds.{list_any-append}
use Rattle.std.proofs.lemmas.Slice.Eq.{bytes_eq-Decides}
use Rattle.clip_meaning.specs.Index.{numbered}
use Rattle.clip_meaning.proofs.Numbered.{words_pass}
use Rattle.clip_extract.specs.Keys.{KeyValue, Front, key_cmp, is_same}
use Rattle.clip_extract.specs.Fronts.{fronts}
use Rattle.clip_extract.specs.Covering.{front_keys}
use Rattle.clip_extract.proofs.Members.{any_map, any_flat_map}
use Rattle.clip_terms.specs.Terms.{number_of, term_at}
use Rattle.clip_terms.specs.Steps.KeysByField.{is_word}
use Rattle.clip_terms.specs.Steps.Numbers.{known}
use Rattle.clip_terms.specs.Steps.Fronts.{other_fronts, asked_fronts, AddsNumbersOf}
use Rattle.clip_terms.proofs.ReadingOf.{or_assoc, known_within, known_is}

-- ---- fronts that two words share

or_same : (a b o f : Bool) → (b || o) ≡ (b || f) → ((a || b) || o) ≡ ((a || b) || (a || f))
or_same true b o f later = refl
or_same false b o f later = later

or_other : (a b c o f : Bool) → (b || o) ≡ (b || f) → ((a || b) || (c || o)) ≡ ((a || b) || (c || f))
or_other true b c o f later = refl
or_other false true c o f later = refl
or_other false false true o f later = refl
or_other false false false o f later = later

module _ (test : List ℕ → Bool) where
  others_alone : (fs : List (List ℕ)) → list_any test (other_fronts [] fs) ≡ list_any test fs
  others_alone [] = refl
  others_alone (f ∷ fs) = ap (λ b. test f || b) (others_alone fs)

  others : (ls fs : List (List ℕ)) → (list_any test ls || list_any test (other_fronts ls fs))
      ≡ (list_any test ls || list_any test fs)
  others [] [] = refl
  others (l ∷ ls) [] = refl
  others [] (f ∷ fs) = others_alone (f ∷ fs)
  others (l ∷ ls) (f ∷ fs) = by_test (bytes_eq l f) refl (others ls fs)
    where
      by_test : (b : Bool) → bytes_eq l f ≡ b → (list_any test ls || list_any test (other_fronts ls fs))
          ≡ (list_any test ls || list_any test fs)
          → ((test l || list_any test ls) || list_any test (cond b (other_fronts ls fs) (f ∷ other_fronts ls fs)))
          ≡ ((test l || list_any test ls) || (test f || list_any test fs))
      by_test true same later =
          or_same (test l) (list_any test ls) (list_any test (other_fronts ls fs)) (list_any test fs) later
          ∙ ap (λ w. (test l || list_any test ls) || (test w || list_any test fs)) ((bytes_eq-Decides l f).0 same)
      by_test false differ later =
          or_other (test l) (list_any test ls) (test f) (list_any test (other_fronts ls fs)) (list_any test fs) later

  -- ---- word by word

  or_next : (last more word asked all : Bool) → (last || more) ≡ (last || word) → (word || asked) ≡ (word || all)
      → (last || (more || asked)) ≡ (last || (word || all))
  or_next true more word asked all first later = refl
  or_next false more word asked all first later = ap (λ b. b || asked) first ∙ later

  asked_any : (last : List ℕ) (ws : List (List ℕ))
      → (list_any test (fronts last) || list_any test (asked_fronts last ws))
      ≡ (list_any test (fronts last) || list_any test (flat_map fronts ws))
  asked_any last [] = refl
  asked_any last (w ∷ ws) =
      ap (λ b. list_any test (fronts last)
      || b) (list_any-append test (other_fronts (fronts last) (fronts w)) (asked_fronts w ws))
      ∙ or_next (list_any test (fronts last)) (list_any test (other_fronts (fronts last) (fronts w)))
      (list_any test (fronts w)) (list_any test (asked_fronts w ws)) (list_any test (flat_map fronts ws))
      (others (fronts last) (fronts w)) (asked_any w ws)
      ∙ ap (λ b. list_any test (fronts last) || b) (sym (list_any-append test (fronts w) (flat_map fronts ws)))

  all_asked : (ws : List (List ℕ)) → list_any test (asked_fronts [] ws) ≡ list_any test (flat_map fronts ws)
  unfolding fronts chars
  all_asked ws = asked_any [] ws

-- ---- the numbers of a field's fronts

abbrev Place : Type 0
Place = List ℕ × ℕ

abbrev words_at : List Place → List (List ℕ)
words_at ps = map (λ (p : Place). p.0) ps

-- the words of postings have the fronts of the field's words
pub fronts_at : (test : KeyValue → Bool) (name : List ℕ) (ws : List (List ℕ)) (ps : List Place)
    → IsPermutation (numbered 0 ws) ps
    → list_any test (map (Front name) (asked_fronts [] (words_at ps))) ≡ list_any test (front_keys (name, ws))
fronts_at test name ws ps moved =
    let here : List ℕ → Bool = λ front. test (Front name front) in
    any_map test (Front name) (asked_fronts [] (words_at ps))
    ∙ all_asked here (words_at ps)
    ∙ any_flat_map here fronts (words_at ps)
    ∙ any_map (λ w. list_any here (fronts w)) (λ (p : Place). p.0) ps
    ∙ words_pass (λ w. list_any here (fronts w)) ws ps moved
    ∙ sym (any_flat_map here fronts ws)
    ∙ sym (any_map test (Front name) (flat_map fronts ws))

-- ---- numbers that are added

pub known_append : (xs ys : List KeyValue) (terms : List KeyValue) → known (map (number_of terms) (xs ++ ys))
    ≡ known (map (number_of terms) xs) ++ known (map (number_of terms) ys)
known_append [] ys terms = refl
known_append (x ∷ xs) ys terms =
    ap (λ ns. option_to_list (number_of terms x) ++ ns) (known_append xs ys terms)
    ∙ sym (append_assoc (option_to_list (number_of terms x)) (known (map (number_of terms) xs))
    (known (map (number_of terms) ys)))

pub added_more : (terms keys more : List KeyValue) (old now new : List ℕ) → AddsNumbersOf terms keys old now
    → AddsNumbersOf terms more now new → AddsNumbersOf terms (keys ++ more) old new
added_more terms keys more old now new before next = record {
  within = λ all. next.within (before.within all);
  among = λ n lt.
      let is : KeyValue → Bool = is_same (term_at terms n) in
      next.among n lt ∙ ap (λ b. b || list_any is more) (before.among n lt)
      ∙ or_assoc (list_any (nat_eq n) old) (list_any is keys) (list_any is more)
      ∙ ap (λ b. list_any (nat_eq n) old || b) (sym (list_any-append is keys more));
}

-- ---- posting by posting, and field by field

-- a word more
pub words_more : (terms : List KeyValue) (name last word : List ℕ) (old new goal : List ℕ) (ps : List Place) (i : ℕ)
    (p : Place) → i < length ps → p ≡ get_or ps i p → word ≡ p.0
    → new ≡ old ++ known (map (number_of terms) (map (Front name) (other_fronts (fronts last) (fronts word))))
    → old ++ known (map (number_of terms) (map (Front name) (asked_fronts last (words_at (drop i ps))))) ≡ goal
    → new ++ known (map (number_of terms) (map (Front name) (asked_fronts word (words_at (drop (i + 1) ps))))) ≡ goal
words_more terms name last word old new goal ps i p lt is same added before =
    let here = other_fronts (fronts last) (fronts word) in
    let rest = asked_fronts word (words_at (drop (i + 1) ps)) in
    let numbers : List (List ℕ) → List ℕ = λ fs. known (map (number_of terms) (map (Front name) fs)) in
    let next : words_at (drop i ps) ≡ word ∷ words_at (drop (i + 1) ps) =
    ap words_at (drop_more ps i p lt ∙ ap (λ (q : Place). q ∷ drop (i + 1) ps) (sym is))
    ∙ ap (λ w. w ∷ words_at (drop (i + 1) ps)) (sym same) in
    ap (λ ns. ns ++ numbers rest) added ∙ append_assoc old (numbers here) (numbers rest)
    ∙ ap (λ ns. old ++ ns) (sym (ap (λ ks. known (map (number_of terms) ks)) (map-append (Front name) here rest)
    ∙ known_append (map (Front name) here) (map (Front name) rest) terms))
    ∙ ap (λ ws. old ++ numbers (asked_fronts last ws)) (sym next) ∙ before

none_other : (fs : List (List ℕ)) → other_fronts fs fs ≡ []
none_other [] = refl
none_other (f ∷ fs) = ap (λ b. cond b (other_fronts fs fs) (f ∷ other_fronts fs fs)) ((bytes_eq-Decides f f).1 refl)
    ∙ none_other fs

-- the same word once more
pub word_again : (terms : List KeyValue) (name last : List ℕ) (old goal : List ℕ) (ps : List Place) (i : ℕ) (p : Place)
    → i < length ps → p ≡ get_or ps i p → p.0 ≡ last
    → old ++ known (map (number_of terms) (map (Front name) (asked_fronts last (words_at (drop i ps))))) ≡ goal
    → old ++ known (map (number_of terms) (map (Front name) (asked_fronts last (words_at (drop (i + 1) ps))))) ≡ goal
word_again terms name last old goal ps i p lt is same before =
    let rest = words_at (drop (i + 1) ps) in
    let next : words_at (drop i ps) ≡ last ∷ rest =
    ap words_at (drop_more ps i p lt ∙ ap (λ (q : Place). q ∷ drop (i + 1) ps) (sym is))
    ∙ ap (λ w. w ∷ rest) same in
    ap (λ fs. old ++ known (map (number_of terms) (map (Front name) (fs ++ asked_fronts last rest))))
    (sym (none_other (fronts last)))
    ∙ ap (λ ws. old ++ known (map (number_of terms) (map (Front name) (asked_fronts last ws)))) (sym next) ∙ before

-- the numbers of keys
pub keys_added : (terms keys : List KeyValue) (old new : List ℕ) → IsStrictlySortedBy key_cmp terms
    → new ≡ old ++ known (map (number_of terms) keys) → AddsNumbersOf terms keys old new
keys_added terms keys old new strict added = record {
  within = λ all. All-same (λ n. n < length terms) _ _ added
      (All-append (λ n. n < length terms) old (known (map (number_of terms) keys)) all (known_within terms keys));
  among = λ n lt.
      ap (list_any (nat_eq n)) added
      ∙ list_any-append (nat_eq n) old (known (map (number_of terms) keys))
      ∙ ap (λ b. list_any (nat_eq n) old || b) (known_is terms n strict lt keys);
}

-- a field's fronts
pub field_asked : (terms : List KeyValue) (field : List ℕ × List (List ℕ)) (name : List ℕ) (ps : List Place)
    (old new : List ℕ) → IsStrictlySortedBy key_cmp terms → name ≡ field.0 → IsPermutation (numbered 0 field.1) ps
    → new ≡ old ++ known (map (number_of terms) (map (Front name) (asked_fronts [] (words_at ps))))
    → AddsNumbersOf terms (front_keys field) old new
field_asked terms field name ps old new strict same moved added =
    let all = keys_added terms (map (Front name) (asked_fronts [] (words_at ps))) old new strict added in
    record {
      within = all.within;
      among = λ n lt.
          let is : KeyValue → Bool = is_same (term_at terms n) in
          all.among n lt
          ∙ ap (λ b. list_any (nat_eq n) old || b) (fronts_at is name field.1 ps moved
          ∙ ap (λ of. list_any is (front_keys (of, field.1))) same);
    }

-- a field more
pub fields_added : (terms first : List KeyValue) (keys_of : List ℕ × List (List ℕ) → List KeyValue)
    (fields : List (List ℕ × List (List ℕ))) (i : ℕ) (field : List ℕ × List (List ℕ)) (old now new : List ℕ)
    → i < length fields → field ≡ get_or fields i field → AddsNumbersOf terms (keys_of field) now new
    → AddsNumbersOf terms (first ++ flat_map keys_of (take i fields)) old now
    → AddsNumbersOf terms (first ++ flat_map keys_of (take (i + 1) fields)) old new
fields_added terms first keys_of fields i field old now new lt is more before =
    subst (λ (keys : List KeyValue). AddsNumbersOf terms keys old new)
    (flat_map_more keys_of first (take i fields) field
    ∙ ap (λ fs. first ++ flat_map keys_of fs) (ap (λ (f : List ℕ × List (List ℕ)). take i fields ++ f ∷ []) is
    ∙ sym (take_more fields i field lt)))
    (added_more terms (first ++ flat_map keys_of (take i fields)) (keys_of field) old now new before more)

-- ---- front by front

-- a front that is not the one beside it is asked
front_asked : {X : Type 0} (now : X → List ℕ) (front : List ℕ) (lasts after fs : List (List ℕ)) (last : Option X)
    → MatchOption last ((lasts ≡ []) × (after ≡ [])) (λ l. lasts ≡ now l ∷ after)
    → is_word (option_map now last) front ≡ false → other_fronts lasts (front ∷ fs) ≡ front ∷ other_fronts after fs
front_asked now front lasts after fs None is differs = ap (λ ls. other_fronts ls (front ∷ fs)) is.0
    ∙ ap (λ ls. front ∷ other_fronts ls fs) (sym is.1)
front_asked now front lasts after fs (Some l) is differs =
    ap (λ ls. other_fronts ls (front ∷ fs)) is
    ∙ ap (λ b. cond b (other_fronts after fs) (front ∷ other_fronts after fs)) differs

pub front_more : {X : Type 0} (terms : List KeyValue) (name : List ℕ) (now : X
    → List ℕ) (front : List ℕ) (lasts after fs rest : List (List ℕ)) (last : Option X) (old new goal : List ℕ)
    → MatchOption last ((lasts ≡ []) × (after ≡ [])) (λ l. lasts ≡ now l ∷ after) → is_word (option_map now last) front
    ≡ false → fs ≡ front ∷ rest
    → new ≡ old ++ option_to_list (number_of terms (Front name front))
    → old ++ known (map (number_of terms) (map (Front name) (other_fronts lasts fs))) ≡ goal
    → new ++ known (map (number_of terms) (map (Front name) (other_fronts after rest))) ≡ goal
front_more terms name now front lasts after fs rest last old new goal is differs next added before =
    let numbers : List (List ℕ) → List ℕ = λ fs. known (map (number_of terms) (map (Front name) fs)) in
    ap (λ ns. ns ++ numbers (other_fronts after rest)) added
    ∙ append_assoc old (option_to_list (number_of terms (Front name front))) (numbers (other_fronts after rest))
    ∙ ap (λ fs. old ++ numbers fs) (sym (ap (other_fronts lasts) next
    ∙ front_asked now front lasts after rest last is differs))
    ∙ before
