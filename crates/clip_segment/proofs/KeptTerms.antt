-- The terms that the kept queries of an index ask for.
use Rattle.std.proofs.Common.{◌≡◌, ℕ, suc, ◌<◌, Bool, true, false, ◌||◌, nat_eq, List, [], ◌∷◌, ◌++◌, length, map}
use Rattle.std.proofs.Common.{flat_map, refl, sym, ap, ap₂, ◌∙◌, arith, inl, inr, eq-eqb}
use Rattle.std.specs.List.{list_any}
use Rattle.std.proofs.Math.Bool.{or-true}
use Rattle.std.proofs.lemmas.Bool.{cases_lt, eqb-true, false≢true}
use Rattle.std.proofs.lemmas.List.{map-append}
use Rattle.std.proofs.lemmas.List.Folds.{list_any-append}
use Rattle.clip_grammar.specs.Tree.{Tree}
use Rattle.clip_grammar.proofs.Booleans.{either, same_answer}
use Rattle.clip_extract.specs.Keys.{KeyValue, Any, is_same}
use Rattle.clip_extract.specs.Extraction.{query_keys, second_keys}
use Rattle.clip_extract.proofs.Order.{same_key}
use Rattle.clip_terms.specs.Terms.{term_at}
use Rattle.clip_plan.specs.Plan.{Mark, names, decoded, plan_of, word_keys}
use Rattle.clip_plan.proofs.Names.{numbered_words, words_only}
use Rattle.clip_plan.proofs.Renumbering.{past_last}
use Rattle.clip_segment.specs.Index.{IndexValue, IsIndexOf, asked_of, has_key, positions_by}
use Rattle.clip_indexed.specs.Selecting.{flagged}
use Rattle.clip_segment.specs.Steps.Parts.{flag_at}
use Rattle.clip_segment.proofs.AnyOf.{any_or, any_flat_map}
use Rattle.clip_segment.proofs.Answering.{list_at, list_of_number, no_term}
use Rattle.clip_segment.proofs.Asked.{AreAsked, keys_asked, seconds_asked}
use Rattle.clip_segment.proofs.Flagged.{kept_at, at_kept, kept_position}

-- ---- what queries ask

-- a key or a second key of one of the queries
abbrev is_key : KeyValue → List Tree → Bool
is_key q trees = list_any (has_key query_keys q) trees || list_any (has_key second_keys q) trees

-- a key that is asked is a key of a query, one of its second keys or one of its words
pub asked_split : (q : KeyValue) (trees : List Tree) → list_any (is_same q) (flat_map asked_of trees)
    ≡ (is_key q trees || list_any (is_same q) (flat_map word_keys trees))
asked_split q trees =
    any_flat_map (is_same q) asked_of trees
    ∙ ap (λ f. list_any f trees)
    (λ i tree. list_any-append (is_same q) (query_keys tree ++ second_keys tree) (word_keys tree) i)
    ∙ any_or (λ tree. list_any (is_same q) (query_keys tree ++ second_keys tree))
    (λ tree. list_any (is_same q) (word_keys tree)) trees
    ∙ ap (λ f. list_any f trees || list_any (λ tree. list_any (is_same q) (word_keys tree)) trees)
    (λ i tree. list_any-append (is_same q) (query_keys tree) (second_keys tree) i)
    ∙ ap (λ b. b || list_any (λ tree. list_any (is_same q) (word_keys tree)) trees)
    (any_or (has_key query_keys q) (has_key second_keys q) trees)
    ∙ ap (λ b. is_key q trees || b) (sym (any_flat_map (is_same q) word_keys trees))

no_any_word : (trees : List Tree) → list_any (is_same Any) (flat_map word_keys trees) ≡ false
no_any_word [] = refl
no_any_word (t ∷ ts) = list_any-append (is_same Any) (word_keys t) (flat_map word_keys ts)
    ∙ ap (λ b. b || list_any (is_same Any) (flat_map word_keys ts)) (words_only t) ∙ no_any_word ts

-- the numbers that kept plans name are those of the kept queries' words
kept_words : (terms : List KeyValue) (flags : List Bool) (plans : List (List (Mark ℕ))) (trees : List Tree)
    → map (decoded terms) plans ≡ map plan_of trees
    → map (term_at terms) (flat_map names (flagged flags plans)) ≡ flat_map word_keys (flagged flags trees)
kept_words terms [] plans trees e = refl
kept_words terms (flag ∷ flags) [] [] e = refl
kept_words terms (flag ∷ flags) [] (t ∷ ts) e = cc
kept_words terms (flag ∷ flags) (p ∷ ps) [] e = cc
kept_words terms (true ∷ flags) (p ∷ ps) (t ∷ ts) e =
    let first : decoded terms p ≡ plan_of t = cc in
    let others : map (decoded terms) ps ≡ map plan_of ts = cc in
    map-append (term_at terms) (names p) (flat_map names (flagged flags ps))
    ∙ ap (λ l. l ++ map (term_at terms) (flat_map names (flagged flags ps))) (numbered_words terms p t first)
    ∙ ap (λ l. word_keys t ++ l) (kept_words terms flags ps ts others)
kept_words terms (false ∷ flags) (p ∷ ps) (t ∷ ts) e =
    let others : map (decoded terms) ps ≡ map plan_of ts = cc in
    kept_words terms flags ps ts others

-- ---- terms and their numbers

-- a key that is a term has a number
abbrev TermAt : KeyValue → List KeyValue → Type 0
TermAt q terms = (n : ℕ) × (n < length terms) × (is_same q (term_at terms n) ≡ true)

term_place : (q : KeyValue) (terms : List KeyValue) → list_any (is_same q) terms ≡ true → TermAt q terms
term_place q [] h = absurd (false≢true h)
term_place q (t ∷ ts) h =
    either (is_same q t) (list_any (is_same q) ts) h (λ here. (0, omega arith, here)) (λ later. let at =
    term_place q ts later in (suc at.0, omega (arith, at.1), at.2))

number_named : (q : KeyValue) (terms : List KeyValue) (n : ℕ) (ns : List ℕ) → is_same q (term_at terms n) ≡ true
    → list_any (nat_eq n) ns ≡ true → list_any (is_same q) (map (term_at terms) ns) ≡ true
number_named q terms n [] same h = absurd (false≢true h)
number_named q terms n (m ∷ ms) same h =
    either (nat_eq n m) (list_any (nat_eq n) ms) h
    (λ here. ap (λ b. b || list_any (is_same q) (map (term_at terms) ms))
    (ap (λ k. is_same q (term_at terms k)) (sym (eqb-true n m here)) ∙ same))
    (λ later. ap (λ b. is_same q (term_at terms m) || b) (number_named q terms n ms same later)
    ∙ or-true (is_same q (term_at terms m)))

abbrev NamedAt : KeyValue → List KeyValue → List ℕ → Type 0
NamedAt q terms ns = (m : ℕ) × (list_any (nat_eq m) ns ≡ true) × (is_same q (term_at terms m) ≡ true)

named_number : (q : KeyValue) (terms : List KeyValue) (ns : List ℕ) → list_any (is_same q) (map (term_at terms) ns)
    ≡ true → NamedAt q terms ns
named_number q terms [] h = absurd (false≢true h)
named_number q terms (n ∷ ns) h =
    either (is_same q (term_at terms n)) (list_any (is_same q) (map (term_at terms) ns)) h
    (λ here. (n, ap (λ b. b || list_any (nat_eq n) ns) (eq-eqb n n refl), here))
    (λ later. let at = named_number q terms ns later in
    (at.0, ap (λ b. nat_eq at.0 n || b) at.1 ∙ or-true (nat_eq at.0 n), at.2))

-- a term's list has a kept position where one of the kept queries has the term
kept_of_term : (keys_of : Tree → List KeyValue) (flags : List Bool) (trees : List Tree) (terms : List KeyValue)
    (lists : List (List ℕ)) → lists ≡ positions_by keys_of terms trees → (n : ℕ) → n < length terms
    → list_any (flag_at flags) (list_at lists n) ≡ list_any (has_key keys_of (term_at terms n)) (flagged flags trees)
kept_of_term keys_of flags trees terms lists placed n lt =
    ap (list_any (flag_at flags)) (list_of_number keys_of trees terms lists placed n lt)
    ∙ kept_position (has_key keys_of (term_at terms n)) flags trees

-- ---- the terms whose flags are set are those that kept queries ask for

module _ (trees : List Tree) (index : IndexValue) (is : IsIndexOf trees index) (flags used : List Bool)
    (numbers : List ℕ) (named : numbers ≡ flat_map names (flagged flags index.plans))
    (all : (n : ℕ) → n < length index.terms
    → flag_at used n ≡ ((list_any (flag_at flags) (list_at index.positions n)
    || list_any (flag_at flags) (list_at index.seconds n)) || list_any (nat_eq n) numbers)) where
  abbrev kept : List Tree
  kept = flagged flags trees

  words : map (term_at index.terms) numbers ≡ flat_map word_keys kept
  words = ap (map (term_at index.terms)) named ∙ kept_words index.terms flags index.plans trees is.plans

  flag_is : (n : ℕ) → n < length index.terms
      → flag_at used n ≡ (is_key (term_at index.terms n) kept || list_any (nat_eq n) numbers)
  flag_is n lt =
      all n lt
      ∙ ap₂ (λ a b. (a || b) || list_any (nat_eq n) numbers)
      (kept_of_term query_keys flags trees index.terms index.positions is.positions n lt)
      (kept_of_term second_keys flags trees index.terms index.seconds is.seconds n lt)

  asked_if : (q : KeyValue) → list_any (is_same q) (flagged used index.terms) ≡ true
      → list_any (is_same q) (flat_map asked_of kept) ≡ true
  asked_if q h =
      let at = kept_at (is_same q) used index.terms Any h in
      let n = at.0 in
      let same : is_same q (term_at index.terms n) ≡ true = at.3 in
      asked_split q kept
      ∙ either (is_key (term_at index.terms n) kept) (list_any (nat_eq n) numbers) (sym (flag_is n at.1) ∙ at.2)
      (λ key. ap (λ k. is_key k kept || list_any (is_same q) (flat_map word_keys kept))
      (same_key q (term_at index.terms n) same)
      ∙ ap (λ b. b || list_any (is_same q) (flat_map word_keys kept)) key)
      (λ word. ap (λ b. is_key q kept || b) (ap (list_any (is_same q)) (sym words)
      ∙ number_named q index.terms n numbers same word)
      ∙ or-true (is_key q kept))

  -- a key that one of the kept queries has is a term
  key_there : (keys_of : Tree → List KeyValue) → AreAsked keys_of → (q : KeyValue) → list_any (has_key keys_of q) kept
      ≡ true → list_any (is_same q) index.terms ≡ true
  key_there keys_of asked q h = by_term (list_any (is_same q) index.terms) refl
    where
      by_term : (b : Bool) → list_any (is_same q) index.terms ≡ b → list_any (is_same q) index.terms ≡ true
      by_term true e = e
      by_term false e =
          absurd (false≢true (ap (list_any (flag_at flags))
          (sym (no_term keys_of trees index.terms asked is.terms q e))
          ∙ kept_position (has_key keys_of q) flags trees ∙ h))

  used_key : (q : KeyValue) → is_key q kept ≡ true → list_any (is_same q) (flagged used index.terms) ≡ true
  used_key q h =
      let there = either (list_any (has_key query_keys q) kept) (list_any (has_key second_keys q) kept) h
      (key_there query_keys keys_asked q) (key_there second_keys seconds_asked q) in
      let at = term_place q index.terms there in
      at_kept (is_same q) used index.terms at.0 Any at.1
      (flag_is at.0 at.1 ∙ ap (λ b. b || list_any (nat_eq at.0) numbers)
      (ap (λ k. is_key k kept) (sym (same_key q (term_at index.terms at.0) at.2)) ∙ h)) at.2

  used_word : (q : KeyValue) → list_any (is_same q) (flat_map word_keys kept) ≡ true
      → list_any (is_same q) (flagged used index.terms) ≡ true
  used_word q h =
      let at = named_number q index.terms numbers (ap (list_any (is_same q)) words ∙ h) in
      elim (cases_lt at.0 (length index.terms)) [
        | inl lt ↦ at_kept (is_same q) used index.terms at.0 Any lt (flag_is at.0 lt
            ∙ ap (λ b. is_key (term_at index.terms at.0) kept || b) at.1 ∙ or-true _) at.2
        | inr far ↦
            let none : q ≡ Any = same_key q (term_at index.terms at.0) at.2 ∙ past_last index.terms at.0 Any far in
            absurd (false≢true (sym (no_any_word kept)
            ∙ ap (λ k. list_any (is_same k) (flat_map word_keys kept)) (sym none) ∙ h))
      ]

  pub used_terms : (q : KeyValue) → list_any (is_same q) (flagged used index.terms)
      ≡ list_any (is_same q) (flat_map asked_of kept)
  used_terms q =
      same_answer _ _ (asked_if q)
      (λ h. either (is_key q kept) (list_any (is_same q) (flat_map word_keys kept)) (sym (asked_split q kept)
      ∙ h) (used_key q) (used_word q))
