-- What an index answers of the queries that it is of.
use Rattle.std.proofs.Common.{◌≡◌, ℕ, zero, suc, ◌<◌, Bool, true, false, cond, nat_eq, List, [], ◌∷◌, ◌++◌, All, map}
use Rattle.std.proofs.Common.{filter, flat_map, length, Some, None, is_some, unwrap_or, option_map, slice_get, refl}
use Rattle.std.proofs.Common.{sym, ap, ◌∙◌, subst, arith, inl, inr}
use Rattle.std.specs.List.{list_any}
use Rattle.std.specs.List.Sorted.{IsStrictlySortedBy}
use Rattle.std.proofs.lemmas.Bool.{cases_lt, false_from_ne_true, false≢true}
use Rattle.std.proofs.lemmas.List.{length-map}
use Rattle.std.proofs.lemmas.List.Folds.{flat_map-map}
use Rattle.std.proofs.lemmas.Option.{slice_get-map}
use Rattle.clip_grammar.specs.Tree.{Tree}
use Rattle.clip_meaning.specs.Article.{Fields}
use Rattle.clip_extract.specs.Keys.{KeyValue, key_cmp, is_same}
use Rattle.clip_extract.specs.Covering.{article_keys}
use Rattle.clip_extract.proofs.Order.{among_in_order}
use Rattle.clip_terms.specs.Terms.{term_at, number_of}
use Rattle.clip_terms.proofs.NumberedKeys.{term_of_number}
use Rattle.clip_terms.specs.Reading.{has_key as article_has}
use Rattle.clip_terms.specs.Steps.Numbers.{known}
use Rattle.clip_terms.proofs.Numbers.{in_order_rises}
use Rattle.clip_terms.proofs.ReadingOf.{has_number, known_within, known_terms, known_is}
use Rattle.clip_plan.specs.Plan.{Mark, decoded, plan_of}
use Rattle.clip_segment.specs.Index.{IndexValue, IsIndexOf, asked_of, has_key, positions_by, query_positions_with}
use Rattle.clip_segment.specs.Index.{query_positions_sharing, terms_of}
use Rattle.clip_segment.proofs.Asked.{AreAsked, had_asked}
use Rattle.clip_segment.proofs.AnyOf.{any_flat_map}
use Rattle.clip_segment.proofs.Numbers.{same_tests, none_below}
use Rattle.clip_segment.proofs.Sharing.{no_positions, any_position}

-- the list at a place, an empty one past the last
abbrev pub list_at : List (List ℕ) → ℕ → List ℕ
list_at lists n = unwrap_or (slice_get lists n) []

-- ---- keys that are terms, and those that are not

listed_at : (f : KeyValue → List ℕ) (terms : List KeyValue) (n : ℕ) → n < length terms
    → list_at (map f terms) n ≡ f (term_at terms n)
listed_at f [] n lt = absurd (omega arith)
listed_at f (t ∷ ts) zero lt = refl
listed_at f (t ∷ ts) (suc n) lt = listed_at f ts n (omega arith)

module _ (keys_of : Tree → List KeyValue) (trees : List Tree) (terms : List KeyValue) where
  -- no query has a key that is no term
  pub no_term : AreAsked keys_of → terms ≡ terms_of trees → (key : KeyValue) → list_any (is_same key) terms ≡ false
      → query_positions_with keys_of key trees ≡ []
  no_term asked are key none =
      no_positions (has_key keys_of key) 0 trees
      (false_from_ne_true _
      (λ there. false≢true (sym none ∙ ap (list_any (is_same key)) are ∙ among_in_order (flat_map asked_of trees) key
      ∙ had_asked keys_of asked key trees there)))

  pub no_number : AreAsked keys_of → terms ≡ terms_of trees → (key : KeyValue) → None ≡ number_of terms key
      → query_positions_with keys_of key trees ≡ []
  no_number asked are key missing = no_term asked are key (sym (has_number terms key) ∙ ap is_some (sym missing))

  module _ (lists : List (List ℕ)) (placed : lists ≡ positions_by keys_of terms trees) where
    -- the list of a number has the positions of its term
    pub list_of_number : (n : ℕ) → n < length terms
        → list_at lists n ≡ query_positions_with keys_of (term_at terms n) trees
    list_of_number n lt = ap (λ ls. list_at ls n) placed
        ∙ listed_at (λ term. query_positions_with keys_of term trees) terms n lt

    pub list_of_key : (key : KeyValue) (n : ℕ) → Some n ≡ number_of terms key
        → list_at lists n ≡ query_positions_with keys_of key trees
    list_of_key key n there =
        let term = term_of_number terms key n (sym there) in
        list_of_number n term.1 ∙ ap (λ k. query_positions_with keys_of k trees) term.0

-- ---- the lists of an article's numbers

flat_map_within : (f g : ℕ → List ℕ) (bound : ℕ) (ns : List ℕ) → All (λ n. n < bound) ns
    → ((n : ℕ) → n < bound → f n ≡ g n) → flat_map f ns ≡ flat_map g ns
flat_map_within f g bound [] within same = refl
flat_map_within f g bound (n ∷ ns) within same =
    let here : n < bound = within 0 n (omega arith) in
    let later : All (λ n. n < bound) ns = λ k d lt. within (suc k) d (omega arith) in
    λ i. same n here i ++ flat_map_within f g bound ns later same i

flat_map_filter : (f : KeyValue → List ℕ) (t : KeyValue → Bool) → ((k : KeyValue) → t k ≡ false → f k ≡ [])
    → (ks : List KeyValue) → flat_map f (filter t ks) ≡ flat_map f ks
flat_map_filter f t empty [] = refl
flat_map_filter f t empty (k ∷ ks) = by_test (t k) refl (flat_map_filter f t empty ks)
  where
    by_test : (b : Bool) → t k ≡ b → flat_map f (filter t ks) ≡ flat_map f ks
        → flat_map f (cond b (k ∷ filter t ks) (filter t ks)) ≡ f k ++ flat_map f ks
    by_test true is later = ap (λ xs. f k ++ xs) later
    by_test false is later = later ∙ sym (ap (λ xs. xs ++ flat_map f ks) (empty k is))

-- the lists of the numbers of those keys that are terms are the positions of all the keys
pub lists_of_keys : (keys_of : Tree → List KeyValue) → AreAsked keys_of → (trees : List Tree) (terms : List KeyValue)
    → terms ≡ terms_of trees → (lists : List (List ℕ)) → lists ≡ positions_by keys_of terms trees
    → (keys : List KeyValue) (ns : List ℕ) → All (λ n. n < length terms) ns
    → map (term_at terms) ns ≡ filter (λ k. list_any (is_same k) terms) keys
    → flat_map (list_at lists) ns ≡ flat_map (λ k. query_positions_with keys_of k trees) keys
lists_of_keys keys_of asked trees terms are lists placed keys ns within named =
    let with_positions : KeyValue → List ℕ = λ k. query_positions_with keys_of k trees in
    flat_map_within (list_at lists) (λ n. with_positions (term_at terms n)) (length terms) ns within
    (list_of_number keys_of trees terms lists placed)
    ∙ sym (flat_map-map with_positions (term_at terms) ns)
    ∙ ap (flat_map with_positions) named
    ∙ flat_map_filter with_positions (λ k. list_any (is_same k) terms) (no_term keys_of trees terms asked are) keys

-- the numbers of the terms that an article has are those of its keys
pub had_known : (terms : List KeyValue) → IsStrictlySortedBy key_cmp terms → (fields : Fields) (ns : List ℕ)
    → All (λ n. n < length terms) ns
    → ((n : ℕ) → n < length terms → list_any (nat_eq n) ns ≡ article_has fields (term_at terms n))
    → (n : ℕ) → list_any (nat_eq n) ns ≡ list_any (nat_eq n) (known (map (number_of terms) (article_keys fields)))
had_known terms strict fields ns within had n =
    let keys = article_keys fields in
    elim (cases_lt n (length terms)) [
      | inl lt ↦ had n lt ∙ sym (known_is terms n strict lt keys)
      | inr le ↦ none_below (length terms) n ns le within
          ∙ sym (none_below (length terms) n (known (map (number_of terms) keys)) le (known_within terms keys))
    ]

-- the positions under those numbers are the positions of the queries that share one of those keys
pub sharing : (keys_of : Tree → List KeyValue) → AreAsked keys_of → (trees : List Tree) (terms : List KeyValue)
    → terms ≡ terms_of trees → (lists : List (List ℕ)) → lists ≡ positions_by keys_of terms trees
    → (fields : Fields) (ns : List ℕ) → All (λ n. n < length terms) ns
    → ((n : ℕ) → n < length terms → list_any (nat_eq n) ns ≡ article_has fields (term_at terms n))
    → (q : ℕ) → list_any (nat_eq q) (flat_map (list_at lists) ns)
    ≡ list_any (nat_eq q) (query_positions_sharing keys_of (article_keys fields) trees)
sharing keys_of asked trees terms are lists placed fields ns within had q =
    let keys = article_keys fields in
    let all = known (map (number_of terms) keys) in
    let strict = subst (IsStrictlySortedBy key_cmp) (sym are) (in_order_rises (flat_map asked_of trees)) in
    any_flat_map (nat_eq q) (list_at lists) ns
    ∙ same_tests (λ n. list_any (nat_eq q) (list_at lists n)) ns all (had_known terms strict fields ns within had)
    ∙ sym (any_flat_map (nat_eq q) (list_at lists) all)
    ∙ ap (list_any (nat_eq q))
    (lists_of_keys keys_of asked trees terms are lists placed keys all (known_within terms keys)
    (known_terms terms keys))
    ∙ any_position keys_of keys trees q

-- ---- plans

mapped_at : {A B : Type 0} (f : A → B) (xs : List A) (n : ℕ) (d : A) → unwrap_or (slice_get (map f xs) n) (f d)
    ≡ f (unwrap_or (slice_get xs n) d)
mapped_at f [] n d = refl
mapped_at f (x ∷ xs) zero d = refl
mapped_at f (x ∷ xs) (suc n) d = mapped_at f xs n d

pub plan_each : (trees : List Tree) (index : IndexValue) → IsIndexOf trees index → length index.plans ≡ length trees
plan_each trees index is = sym (length-map index.plans (decoded index.terms)) ∙ ap length is.plans
    ∙ length-map trees plan_of

-- of plans that are those of queries, the one at a position is that of the query there
pub decoded_at : (trees : List Tree) (terms : List KeyValue) (plans : List (List (Mark ℕ)))
    → map (decoded terms) plans ≡ map plan_of trees → (position : ℕ) (tree : Tree)
    → slice_get trees position ≡ Some tree
    → decoded terms (unwrap_or (slice_get plans position) []) ≡ plan_of tree
decoded_at trees terms plans are position tree there =
    sym (mapped_at (decoded terms) plans position [])
    ∙ ap (λ decoded_plans. unwrap_or (slice_get decoded_plans position) []) are
    ∙ ap (λ o. unwrap_or o []) (slice_get-map plan_of trees position ∙ ap (option_map plan_of) there)

-- the plan at a position is that of the query there
pub plan_at : (trees : List Tree) (index : IndexValue) → IsIndexOf trees index → (position : ℕ) (tree : Tree)
    → slice_get trees position ≡ Some tree → decoded index.terms (unwrap_or (slice_get index.plans position) [])
    ≡ plan_of tree
plan_at trees index is position tree there = decoded_at trees index.terms index.plans is.plans position tree there
