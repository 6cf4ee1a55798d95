-- What a reading is made of: numbers and flags of keys, and numbers at places.
use Rattle.std.proofs.Common.{◌≡◌, ℕ, suc, ◌+◌, ◌<◌, Bool, true, false, ◌||◌, cond, nat_eq, List, [], ◌∷◌, ◌++◌, All}
use Rattle.std.proofs.Common.{filter, map, flat_map, length, take, set, get_or, Option, Some, None, is_some, unwrap_or}
use Rattle.std.proofs.Common.{option_map, option_to_list, slice_get, refl, sym, ap, ◌∙◌, arith, eq-eqb, ne_eqb}
use Rattle.std.proofs.Common.{get_or-set_same, get_or-set_other, inl, inr}
use Rattle.std.specs.FinMap as finite
use Rattle.std.specs.Cmp.{eq_by_cmp_equiv}
use Rattle.std.specs.List.{list_any}
use Rattle.std.specs.List.Sorted.{IsStrictlySortedBy}
use Rattle.std.proofs.lemmas.Bool.{cases_eq, or_right}
use Rattle.std.proofs.lemmas.Cmp.{nat_eq_equiv}
use Rattle.std.proofs.lemmas.List.{map-append}
use Rattle.std.proofs.lemmas.List.Elements.{All-nil, All-cons, All-append}
use Rattle.std.proofs.lemmas.List.Folds.{list_any-append, list_any_more}
use Rattle.std.proofs.lemmas.Option.{slice_get-map, unwrap_or-slice_get}
use Rattle.clip_extract.specs.Keys.{KeyValue, Any, Word, key_cmp, is_same}
use Rattle.clip_meaning.specs.Article.{Fields}
use Rattle.clip_extract.specs.Covering.{field_keys, front_keys}
use Rattle.clip_extract.proofs.Covers.{all_keys}
use Rattle.clip_extract.proofs.Order.{key_cmp_total, among_in_order}
use Rattle.clip_terms.specs.Terms.{term_at, number_of}
use Rattle.clip_terms.specs.Reading.{has_key}
use Rattle.clip_terms.specs.Steps.Fronts.{AddsNumbersOf}
use Rattle.clip_terms.specs.Steps.KeysByField.{ordered_keys}
use Rattle.clip_terms.specs.Steps.Numbers.{known, number_at, AreFlags}
use Rattle.clip_terms.specs.Steps.Runs.{is_number}
use Rattle.clip_terms.proofs.KeysByField.{keys_by_field}
use Rattle.clip_terms.proofs.NumberedKeys.{term_of_number, key_numbered}

pub or_none : (b : Bool) → (b || false) ≡ b
or_none true = refl
or_none false = refl

-- ---- flags

-- one number more
pub flag_more : (flags : List Bool) (bound : ℕ) (numbers : List ℕ) (i : ℕ) → i < length numbers → length flags ≡ bound
    → AreFlags flags bound (take i numbers)
    → AreFlags (set flags (get_or numbers i 0) true) bound (take (i + 1) numbers)
flag_more flags bound numbers i inside long so n lt =
    let m = get_or numbers i 0 in
    let more = list_any_more (nat_eq n) numbers i 0 inside in
    let read = unwrap_or-slice_get (set flags m true) n true in
    elim (cases_eq n m) [
      | inl e ↦
          read ∙ ap (λ k. get_or (set flags m true) k true) e
          ∙ get_or-set_same flags m true true (omega (arith, e, lt, long))
          ∙ sym (more ∙ or_right (list_any (nat_eq n) (take i numbers)) (nat_eq n m) (eq-eqb n m e))
      | inr ne ↦
          read ∙ get_or-set_other flags m n true true ne ∙ sym (unwrap_or-slice_get flags n true) ∙ so n lt
          ∙ sym (more ∙ ap (λ b. list_any (nat_eq n) (take i numbers) || b) (ne_eqb n m ne)
          ∙ or_none (list_any (nat_eq n) (take i numbers)))
    ]

-- ---- the numbers of keys

module _ (terms : List KeyValue) where
  within_one : (k : KeyValue) (o : Option ℕ) → number_of terms k ≡ o → All (λ n. n < length terms) (option_to_list o)
  within_one k None is = All-nil (λ n. n < length terms)
  within_one k (Some n) is =
      All-cons (λ n. n < length terms) n [] (term_of_number terms k n is).1 (All-nil (λ n. n < length terms))

  pub known_within : (keys : List KeyValue) → All (λ n. n < length terms) (known (map (number_of terms) keys))
  known_within [] = All-nil (λ n. n < length terms)
  known_within (k ∷ keys) =
      All-append (λ n. n < length terms) (option_to_list (number_of terms k)) (known (map (number_of terms) keys))
      (within_one k (number_of terms k) refl) (known_within keys)

  -- the terms of the numbers are the keys that are terms
  known_one : (k : KeyValue) (rest : List KeyValue) (o : Option ℕ) → number_of terms k ≡ o
      → map (term_at terms) (option_to_list o) ++ rest ≡ cond (is_some o) (k ∷ rest) rest
  known_one k rest None is = refl
  known_one k rest (Some n) is = ap (λ t. t ∷ rest) (term_of_number terms k n is).0

same_some : (o : Option ℕ) → is_some (option_map suc o) ≡ is_some o
same_some None = refl
same_some (Some n) = refl

pub has_number : (terms : List KeyValue) (k : KeyValue) → is_some (number_of terms k) ≡ list_any (is_same k) terms
has_number [] k = refl
has_number (t ∷ terms) k =
    elim (is_same k t) as (λ b. is_some (cond b (Some 0) (option_map suc (number_of terms k)))
    ≡ (b || list_any (is_same k) terms)) [
      | true ↦ refl
      | false ↦ same_some (number_of terms k) ∙ has_number terms k
    ]

pub known_terms : (terms keys : List KeyValue) → map (term_at terms) (known (map (number_of terms) keys))
    ≡ filter (λ k. list_any (is_same k) terms) keys
known_terms terms [] = refl
known_terms terms (k ∷ keys) =
    let rest = filter (λ q. list_any (is_same q) terms) keys in
    map-append (term_at terms) (option_to_list (number_of terms k)) (known (map (number_of terms) keys))
    ∙ ap (λ xs. map (term_at terms) (option_to_list (number_of terms k)) ++ xs) (known_terms terms keys)
    ∙ known_one terms k rest (number_of terms k) refl
    ∙ ap (λ b. cond b (k ∷ rest) rest) (has_number terms k)

in_option : (o : Option ℕ) (n : ℕ) → list_any (nat_eq n) (option_to_list o) ≡ is_number o n
in_option None n = refl
in_option (Some m) n = or_none (nat_eq n m) ∙ nat_eq_equiv.symm n m

-- a number is among those of the keys where its term is among the keys
pub known_is : (terms : List KeyValue) (n : ℕ) → IsStrictlySortedBy key_cmp terms → n < length terms
    → (keys : List KeyValue) → list_any (nat_eq n) (known (map (number_of terms) keys))
    ≡ list_any (is_same (term_at terms n)) keys
known_is terms n strict lt [] = refl
known_is terms n strict lt (k ∷ keys) =
    let head = in_option (number_of terms k) n ∙ key_numbered terms k n strict lt
    ∙ (eq_by_cmp_equiv key_cmp_total).symm k (term_at terms n) in
    list_any-append (nat_eq n) (option_to_list (number_of terms k)) (known (map (number_of terms) keys))
    ∙ (λ i. head i || known_is terms n strict lt keys i)

-- ---- the numbers at places

module _ (terms keys : List KeyValue) where
  found_at : (k : KeyValue) (o : Option KeyValue) → (k ≡ Any → ⊥) → unwrap_or o Any ≡ k
      → unwrap_or (option_map (number_of terms) o) None ≡ number_of terms k
  found_at k None word is = absurd (word (sym is))
  found_at k (Some l) word is = ap (number_of terms) is

  no_word : (name word : List ℕ) → Word name word ≡ Any → ⊥
  no_word name word e = cc

  placed_at : (name word : List ℕ) (p : ℕ) → term_at keys p ≡ Word name word → number_at (map (number_of terms) keys) p
      ≡ number_of terms (Word name word)
  placed_at name word p is =
      ap (λ (o : Option (Option ℕ)). unwrap_or o None) (slice_get-map (number_of terms) keys p)
      ∙ found_at (Word name word) (slice_get keys p) (no_word name word) is

  pub places_numbered : (name : List ℕ) (ps : List ℕ) (ws : List (List ℕ)) → map (term_at keys) ps ≡ map (Word name) ws
      → map (number_at (map (number_of terms) keys)) ps ≡ map (number_of terms) (map (Word name) ws)
  places_numbered name [] [] e = refl
  places_numbered name [] (w ∷ ws) e = cc
  places_numbered name (p ∷ ps) [] e = cc
  places_numbered name (p ∷ ps) (w ∷ ws) e =
      let here : term_at keys p ≡ Word name w = cc in
      let later : map (term_at keys) ps ≡ map (Word name) ws = cc in
      λ i. placed_at name w p here i ∷ places_numbered name ps ws later i

-- ---- the numbers of all keys of an article

swapped : (a b c d : Bool) → ((a || b) || (c || d)) ≡ ((a || c) || (b || d))
swapped true b c d = refl
swapped false true true d = refl
swapped false true false d = refl
swapped false false c d = refl

pub or_assoc : (a b c : Bool) → ((a || b) || c) ≡ (a || (b || c))
or_assoc true b c = refl
or_assoc false b c = refl

-- the keys of a field's words and of their fronts
abbrev pub all_of_field : List ℕ × List (List ℕ) → List KeyValue
all_of_field field = ordered_keys field ++ front_keys field

by_kind : (test : KeyValue → Bool) (fields : List (List ℕ × List (List ℕ)))
    → list_any test (flat_map all_of_field fields)
    ≡ (list_any test (flat_map ordered_keys fields) || list_any test (flat_map front_keys fields))
by_kind test [] = refl
by_kind test (f ∷ fields) =
    list_any-append test (all_of_field f) (flat_map all_of_field fields)
    ∙ (λ i. list_any-append test (ordered_keys f) (front_keys f) i || by_kind test fields i)
    ∙ swapped (list_any test (ordered_keys f)) (list_any test (front_keys f))
    (list_any test (flat_map ordered_keys fields)) (list_any test (flat_map front_keys fields))
    ∙ sym (λ i. list_any-append test (ordered_keys f) (flat_map ordered_keys fields) i
    || list_any-append test (front_keys f) (flat_map front_keys fields) i)

module _ (terms : List KeyValue) (fields : Fields) (new : List ℕ)
    (added : AddsNumbersOf terms (Any ∷ flat_map all_of_field (finite.entries fields)) [] new) where
  pub numbers_within : All (λ n. n < length terms) new
  numbers_within = added.within (All-nil (λ n. n < length terms))

  pub numbers_had : (n : ℕ) → n < length terms → list_any (nat_eq n) new ≡ has_key fields (term_at terms n)
  numbers_had n lt =
      let is : KeyValue → Bool = is_same (term_at terms n) in
      let entries = finite.entries fields in
      let words : List KeyValue = Any ∷ flat_map field_keys entries in
      let others : Bool = list_any is (flat_map front_keys entries) in
      added.among n lt
      ∙ ap (λ b. is Any || b) (by_kind is entries)
      ∙ sym (or_assoc (is Any) (list_any is (flat_map ordered_keys entries)) others)
      ∙ ap (λ (keys : List KeyValue). list_any is keys || others) (keys_by_field fields)
      ∙ ap (λ b. b || others) (among_in_order words (term_at terms n))
      ∙ sym (list_any-append is words (flat_map front_keys entries))
      ∙ sym (among_in_order (all_keys fields) (term_at terms n))
