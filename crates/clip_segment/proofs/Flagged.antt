-- Items whose flags are set.
use Rattle.std.proofs.Common.{◌≡◌, ℕ, zero, suc, ◌+◌, ◌<◌, ◌≤◌, Bool, true, false, cond, ◌||◌, ◌&&◌, nat_eq, ltb, List}
use Rattle.std.proofs.Common.{[], ◌∷◌, ◌++◌, length, map, flat_map, filter, take, drop, set, replicate, get_or}
use Rattle.std.proofs.Common.{unwrap_or, slice_get, Option, Some, None, refl, sym, ap, ap₂, ◌∙◌, arith, add-one}
use Rattle.std.proofs.Common.{append-nil, append_assoc, eq-eqb, ne_eqb}
use Rattle.std.proofs.Common.{inl, inr}
use Rattle.std.specs.Prelude.{option_to_list}
use Rattle.std.specs.List.{AllByRecursion, list_all, list_any, enumerate_from, count_by}
use Rattle.std.specs.List.Sorted.{IsStrictlySortedBy}
use Rattle.std.specs.declared.cmp.Ordering.TheVariants.{Less}
use Rattle.std.proofs.Math.Bool.{or-true, or-false}
use Rattle.std.proofs.lemmas.Bool.{cases_eq, false≢true}
use Rattle.std.proofs.lemmas.Bool.Decides.{nat_tests}
use Rattle.std.proofs.lemmas.List.{drop_all, get_or-map}
use Rattle.std.proofs.lemmas.List.Folds.{list_any_more}
use Rattle.std.proofs.lemmas.List.Sums.{sum_by-cons}
use Rattle.std.proofs.lemmas.Option.{unwrap_or-slice_get}
use Rattle.clip_grammar.specs.Tree.{Tree}
use Rattle.clip_grammar.proofs.Booleans.{either}
use Rattle.clip_extract.specs.Keys.{KeyValue, key_cmp}
use Rattle.clip_segment.specs.Index.{query_positions}
use Rattle.clip_indexed.specs.Selecting.{flagged, kept_of, count_set}
use Rattle.clip_segment.specs.Steps.Parts.{flag_at, moved, new_position, new_positions}

-- nothing is kept of none
pub flagged_none : {A : Type 0} (flags : List Bool) → flagged {A = A} flags [] ≡ []
flagged_none [] = refl
flagged_none (flag ∷ flags) = refl

-- all are kept where each flag is set
pub flagged_whole : {A : Type 0} (flags : List Bool) (xs : List A) → list_all (λ flag. flag) flags ≡ true
    → length xs ≤ length flags → flagged flags xs ≡ xs
flagged_whole [] [] all few = refl
flagged_whole [] (x ∷ xs) all few = absurd (omega arith)
flagged_whole (flag ∷ flags) [] all few = refl
flagged_whole (true ∷ flags) (x ∷ xs) all few = ap (λ ys. x ∷ ys) (flagged_whole flags xs all (omega arith))
flagged_whole (false ∷ flags) (x ∷ xs) all few = absurd (false≢true all)

-- ---- one item after another

-- what is kept from a place on
pub flagged_from : {A : Type 0} (flags : List Bool) (xs : List A) (i : ℕ) (d : A) → i < length xs
    → flagged (drop i flags) (drop i xs) ≡ cond (flag_at flags i) (get_or xs i d ∷ []) []
    ++ flagged (drop (suc i) flags) (drop (suc i) xs)
flagged_from flags [] i d lt = absurd (omega arith)
flagged_from [] (x ∷ xs) zero d lt = refl
flagged_from (true ∷ flags) (x ∷ xs) zero d lt = refl
flagged_from (false ∷ flags) (x ∷ xs) zero d lt = refl
flagged_from [] (x ∷ xs) (suc i) d lt = refl
flagged_from (flag ∷ flags) (x ∷ xs) (suc i) d lt = flagged_from flags xs i d (omega arith)

module _ {A B : Type 0} (G : List A → List B) (g : A → List B) (step : (x : A) (xs : List A)
    → G (x ∷ xs) ≡ g x ++ G xs) (flags : List Bool) (xs : List A) (i : ℕ) where
  -- what is made of the kept items so far, with what is to come: one that is kept, and one that is not
  pub kept_next : (d : A) (before after whole : List B) → i < length xs → flag_at flags i ≡ true
      → after ≡ before ++ g (unwrap_or (slice_get xs i) d)
      → before ++ G (flagged (drop i flags) (drop i xs)) ≡ whole
      → after ++ G (flagged (drop (i + 1) flags) (drop (i + 1) xs)) ≡ whole
  kept_next d before after whole lt set e so =
      let rest = flagged (drop (suc i) flags) (drop (suc i) xs) in
      rw add-one (
      ap (λ l. l ++ G rest) (e ∙ ap (λ x. before ++ g x) (unwrap_or-slice_get xs i d))
      ∙ append_assoc before (g (get_or xs i d)) (G rest)
      ∙ ap (λ l. before ++ l) (sym (step (get_or xs i d) rest))
      ∙ ap (λ b. before ++ G (cond b (get_or xs i d ∷ []) [] ++ rest)) (sym set)
      ∙ ap (λ l. before ++ G l) (sym (flagged_from flags xs i d lt))
      ∙ so)

  pub left_next : (d : A) (before after whole : List B) → i < length xs → flag_at flags i ≡ false → after ≡ before
      → before ++ G (flagged (drop i flags) (drop i xs)) ≡ whole
      → after ++ G (flagged (drop (i + 1) flags) (drop (i + 1) xs)) ≡ whole
  left_next d before after whole lt unset e so =
      let rest = flagged (drop (suc i) flags) (drop (suc i) xs) in
      rw add-one (
      ap (λ l. l ++ G rest) e
      ∙ ap (λ b. before ++ G (cond b (get_or xs i d ∷ []) [] ++ rest)) (sym unset)
      ∙ ap (λ l. before ++ G l) (sym (flagged_from flags xs i d lt))
      ∙ so)

  -- none is to come
  pub none_next : (before whole : List B) → G [] ≡ [] → length xs ≤ i
      → before ++ G (flagged (drop i flags) (drop i xs)) ≡ whole → before ≡ whole
  none_next before whole none far so =
      sym (append-nil before)
      ∙ ap (λ l. before ++ l) (sym none ∙ ap G (sym (flagged_none (drop i flags)))
      ∙ ap (λ l. G (flagged (drop i flags) l)) (sym (drop_all i xs far)))
      ∙ so

-- what is kept of keys in order is in order
all_flagged : (P : KeyValue → Type 0) (flags : List Bool) (ks : List KeyValue) → AllByRecursion P ks
    → AllByRecursion P (flagged flags ks)
all_flagged P [] ks all = tt
all_flagged P (flag ∷ flags) [] all = tt
all_flagged P (true ∷ flags) (k ∷ ks) all = (all.0, all_flagged P flags ks all.1)
all_flagged P (false ∷ flags) (k ∷ ks) all = all_flagged P flags ks all.1

pub flagged_rises : (flags : List Bool) (ks : List KeyValue) → IsStrictlySortedBy key_cmp ks
    → IsStrictlySortedBy key_cmp (flagged flags ks)
unfolding IsStrictlySortedBy
flagged_rises [] ks rising = tt
flagged_rises (flag ∷ flags) [] rising = tt
flagged_rises (true ∷ flags) (k ∷ ks) rising =
    (all_flagged (λ l. key_cmp k l ≡ Less) flags ks rising.0, flagged_rises flags ks rising.1)
flagged_rises (false ∷ flags) (k ∷ ks) rising = flagged_rises flags ks rising.1

pub none_rise : IsStrictlySortedBy key_cmp []
unfolding IsStrictlySortedBy
none_rise = tt

-- ---- members

-- one that is kept stands at a place whose flag is set
abbrev pub KeptAt : {A : Type 0} → (A → Bool) → List Bool → List A → A → Type 0
KeptAt p flags xs d = (n : ℕ) × (n < length xs) × (flag_at flags n ≡ true) × (p (unwrap_or (slice_get xs n) d) ≡ true)

pub kept_at : {A : Type 0} (p : A → Bool) (flags : List Bool) (xs : List A) (d : A) → list_any p (flagged flags xs)
    ≡ true → KeptAt p flags xs d
kept_at p [] xs d h = absurd (false≢true h)
kept_at p (flag ∷ flags) [] d h = absurd (false≢true h)
kept_at p (true ∷ flags) (x ∷ xs) d h =
    either (p x) (list_any p (flagged flags xs)) h
    (λ here. (0, omega arith, refl, here))
    (λ later. let at = kept_at p flags xs d later in (suc at.0, omega (arith, at.1), at.2, at.3))
kept_at p (false ∷ flags) (x ∷ xs) d h = let at = kept_at p flags xs d h in (suc at.0, omega (arith, at.1), at.2, at.3)

pub at_kept : {A : Type 0} (p : A → Bool) (flags : List Bool) (xs : List A) (n : ℕ) (d : A) → n < length xs
    → flag_at flags n ≡ true → p (unwrap_or (slice_get xs n) d) ≡ true → list_any p (flagged flags xs) ≡ true
at_kept p flags [] n d lt set h = absurd (omega arith)
at_kept p [] (x ∷ xs) n d lt set h = absurd (false≢true set)
at_kept p (true ∷ flags) (x ∷ xs) zero d lt set h = ap (λ b. b || list_any p (flagged flags xs)) h
at_kept p (false ∷ flags) (x ∷ xs) zero d lt set h = absurd (false≢true set)
at_kept p (true ∷ flags) (x ∷ xs) (suc n) d lt set h = ap (λ b. p x || b) (at_kept p flags xs n d (omega arith) set h)
    ∙ or-true (p x)
at_kept p (false ∷ flags) (x ∷ xs) (suc n) d lt set h = at_kept p flags xs n d (omega arith) set h

-- ---- positions

-- the positions of the queries that pass, from the first on
abbrev entries : (Tree → Bool) → ℕ → List Tree → List (ℕ × Tree)
entries test m trees = filter (λ (e : ℕ × Tree). test e.1) (enumerate_from m trees)

abbrev pub positions_from : (Tree → Bool) → ℕ → List Tree → List ℕ
positions_from test m trees = map (λ (e : ℕ × Tree). e.0) (entries test m trees)

-- a position before others, if it passes
abbrev position_before : ℕ → Tree → Bool → List (ℕ × Tree) → List ℕ
position_before m x t es = map (λ (e : ℕ × Tree). e.0) (cond t ((m, x) ∷ es) es)

pub positions_append : (test : Tree → Bool) (m : ℕ) (xs ys : List Tree) → positions_from test m (xs ++ ys)
    ≡ positions_from test m xs ++ positions_from test (m + length xs) ys
positions_append test m [] ys = ap (λ n. positions_from test n ys) (omega arith)
positions_append test m (x ∷ xs) ys =
    by_test (test x) (positions_append test (m + 1) xs ys
    ∙ ap (λ n. positions_from test (m + 1) xs ++ positions_from test n ys) far)
  where
    far : m + 1 + length xs ≡ m + length (x ∷ xs)
    far = omega arith

    by_test : (t : Bool) → positions_from test (m + 1) (xs ++ ys) ≡ positions_from test (m + 1) xs
        ++ positions_from test (m + length (x ∷ xs)) ys
        → position_before m x t (entries test (m + 1) (xs ++ ys)) ≡ position_before m x t (entries test (m + 1) xs)
        ++ positions_from test (m + length (x ∷ xs)) ys
    by_test true later = ap (λ l. m ∷ l) later
    by_test false later = later

-- a test of the first position, and of those behind it
any_before : (h : ℕ → Bool) (m : ℕ) (x : Tree) (es : List (ℕ × Tree)) (rest : Bool) (t : Bool) (flag : Bool)
    → h m ≡ flag → list_any h (map (λ (e : ℕ × Tree). e.0) es) ≡ rest
    → list_any h (position_before m x t es) ≡ (cond flag t false || rest)
any_before h m x es rest true true here later = ap (λ b. b || list_any h (map (λ (e : ℕ × Tree). e.0) es)) here
any_before h m x es rest false true here later = later
any_before h m x es rest true false here later = ap (λ b. b || list_any h (map (λ (e : ℕ × Tree). e.0) es)) here ∙ later
any_before h m x es rest false false here later = later

-- one of the positions has its flag set where one of the kept queries passes
kept_from : (test : Tree → Bool) (h : ℕ → Bool) (m : ℕ) (flags : List Bool) (xs : List Tree)
    → ((k : ℕ) → h (m + k) ≡ flag_at flags k) → list_any h (positions_from test m xs) ≡ list_any test (flagged flags xs)
kept_from test h m flags [] agree = ap (list_any test) (sym (flagged_none flags))
kept_from test h m [] (x ∷ xs) agree =
    any_before h m x (entries test (m + 1) xs) false (test x) false (ap h (omega arith)
    ∙ agree 0) (kept_from test h (m + 1) [] xs (λ k. ap h (omega arith) ∙ agree (suc k)))
kept_from test h m (true ∷ flags) (x ∷ xs) agree =
    any_before h m x (entries test (m + 1) xs) (list_any test (flagged flags xs)) (test x) true (ap h (omega arith)
    ∙ agree 0) (kept_from test h (m + 1) flags xs (λ k. ap h (omega arith) ∙ agree (suc k)))
kept_from test h m (false ∷ flags) (x ∷ xs) agree =
    any_before h m x (entries test (m + 1) xs) (list_any test (flagged flags xs)) (test x) false (ap h (omega arith)
    ∙ agree 0) (kept_from test h (m + 1) flags xs (λ k. ap h (omega arith) ∙ agree (suc k)))

pub kept_position : (test : Tree → Bool) (flags : List Bool) (trees : List Tree)
    → list_any (flag_at flags) (query_positions test trees) ≡ list_any test (flagged flags trees)
kept_position test flags trees = kept_from test (flag_at flags) 0 flags trees (λ k. ap (flag_at flags) (omega arith))

-- the new positions are those among the kept queries
moved_from : (test : Tree → Bool) (h : ℕ → Option ℕ) (m first : ℕ) (flags : List Bool) (xs : List Tree)
    → length flags ≡ length xs → ((k : ℕ) → h (m + k) ≡ new_position (new_positions first flags) k)
    → flat_map (λ position. option_to_list (h position)) (positions_from test m xs)
    ≡ positions_from test first (flagged flags xs)
moved_from test h m first [] [] long agree = refl
moved_from test h m first [] (x ∷ xs) long agree = absurd (omega arith)
moved_from test h m first (flag ∷ flags) [] long agree = absurd (omega arith)
moved_from test h m first (true ∷ flags) (x ∷ xs) long agree =
    both (test x) (ap h (omega arith)
    ∙ agree 0) (moved_from test h (m + 1) (first + 1) flags xs (omega arith) (λ k. ap h (omega arith)
    ∙ agree (suc k)))
  where
    both : (t : Bool) → h m ≡ Some first
        → flat_map (λ position. option_to_list (h position)) (positions_from test (m + 1) xs)
        ≡ positions_from test (first + 1) (flagged flags xs)
        → flat_map (λ position. option_to_list (h position)) (position_before m x t (entries test (m + 1) xs))
        ≡ position_before first x t (entries test (first + 1) (flagged flags xs))
    both true here later = ap (λ o. option_to_list o
        ++ flat_map (λ position. option_to_list (h position)) (positions_from test (m + 1) xs)) here
        ∙ ap (λ l. first ∷ l) later
    both false here later = later
moved_from test h m first (false ∷ flags) (x ∷ xs) long agree =
    none (test x) (ap h (omega arith)
    ∙ agree 0) (moved_from test h (m + 1) first flags xs (omega arith) (λ k. ap h (omega arith) ∙ agree (suc k)))
  where
    none : (t : Bool) → h m ≡ None
        → flat_map (λ position. option_to_list (h position)) (positions_from test (m + 1) xs)
        ≡ positions_from test first (flagged flags xs)
        → flat_map (λ position. option_to_list (h position)) (position_before m x t (entries test (m + 1) xs))
        ≡ positions_from test first (flagged flags xs)
    none true here later = ap (λ o. option_to_list o
        ++ flat_map (λ position. option_to_list (h position)) (positions_from test (m + 1) xs)) here ∙ later
    none false here later = later

-- behind those of other queries
pub positions_moved : (test : Tree → Bool) (before : List Tree) (flags : List Bool) (trees : List Tree) (first : ℕ)
    → first ≡ length before → length flags ≡ length trees
    → query_positions test before ++ moved (new_positions first flags) (query_positions test trees)
    ≡ query_positions test (before ++ flagged flags trees)
positions_moved test before flags trees first at long =
    ap (λ l. query_positions test before ++ l)
    (moved_from test (new_position (new_positions first flags)) 0 first flags trees long
    (λ k. ap (new_position (new_positions first flags)) (omega arith)))
    ∙ ap (λ n. query_positions test before ++ positions_from test n (flagged flags trees)) (at
    ∙ zero_first (length before))
    ∙ sym (positions_append test 0 before (flagged flags trees))
  where
    zero_first : (n : ℕ) → n ≡ 0 + n
    zero_first n = omega arith

-- ---- several lists

-- what is kept of one list more
pub kept_more : {A : Type 0} (lists : List (List A)) (flags : List (List Bool)) (i : ℕ)
    → kept_of (take (suc i) lists) (take (suc i) flags) ≡ kept_of (take i lists) (take i flags)
    ++ flagged (unwrap_or (slice_get flags i) []) (unwrap_or (slice_get lists i) [])
kept_more [] flags zero = sym (flagged_none (unwrap_or (slice_get flags 0) []))
kept_more [] flags (suc i) = sym (flagged_none (unwrap_or (slice_get flags (suc i)) []))
kept_more (xs ∷ lists) [] zero = refl
kept_more (xs ∷ lists) [] (suc i) = refl
kept_more (xs ∷ lists) (fs ∷ flags) zero = append-nil (flagged fs xs)
kept_more (xs ∷ lists) (fs ∷ flags) (suc i) =
    ap (λ l. flagged fs xs ++ l) (kept_more lists flags i)
    ∙ sym (append_assoc (flagged fs xs) (kept_of (take i lists) (take i flags)) _)

-- what is kept of all
pub kept_whole : {A : Type 0} (lists : List (List A)) (flags : List (List Bool)) (i : ℕ) → length lists ≤ i
    → kept_of (take i lists) (take i flags) ≡ kept_of lists flags
kept_whole [] flags zero le = refl
kept_whole [] flags (suc i) le = refl
kept_whole (xs ∷ lists) flags zero le = absurd (omega arith)
kept_whole (xs ∷ lists) [] (suc i) le = refl
kept_whole (xs ∷ lists) (fs ∷ flags) (suc i) le =
    ap (λ l. flagged fs xs ++ l) (kept_whole lists flags i (omega arith))

-- what is kept of the lists of one item more
pub kept_after : {R A : Type 0} (seen : R → List A) (items : List R) (flags : List (List Bool)) (i place : ℕ) (x : R)
    (now : List Bool) (before after : List A) → i < length items → x ≡ get_or items i x → place ≡ i
    → now ≡ unwrap_or (slice_get flags place) [] → before ≡ kept_of (take i (map seen items)) (take i flags)
    → after ≡ before ++ flagged now (seen x) → after ≡ kept_of (take (i + 1) (map seen items)) (take (i + 1) flags)
kept_after seen items flags i place x now before after lt is at are so e =
    let lists = map seen items in
    let here : unwrap_or (slice_get lists i) [] ≡ seen x =
    unwrap_or-slice_get lists i [] ∙ get_or-map seen items i x [] lt ∙ ap seen (sym is) in
    rw add-one (
    e ∙ ap (λ l. l ++ flagged now (seen x)) so
    ∙ ap₂ (λ fs xs. kept_of (take i lists) (take i flags) ++ flagged fs xs)
    (are ∙ ap (λ k. unwrap_or (slice_get flags k) []) at) (sym here)
    ∙ sym (kept_more lists flags i))

-- the flags of one list, and of those behind it
pub count_from : (flags : List (List Bool)) (i : ℕ)
    → count_set (drop i flags) ≡ count_by (λ flag. flag) (unwrap_or (slice_get flags i) [])
    + count_set (drop (suc i) flags)
count_from [] zero = refl
count_from [] (suc i) = refl
count_from (fs ∷ flags) zero = sum_by-cons (count_by (λ (flag : Bool). flag)) fs flags
count_from (fs ∷ flags) (suc i) = count_from flags i

-- what one list takes of the flags that may still be set
pub few_next : (flags : List (List Bool)) (i place n bound : ℕ) (now : List Bool)
    → now ≡ unwrap_or (slice_get flags place) [] → place ≡ i → n + count_set (drop i flags) ≤ bound
    → n + count_by (λ flag. flag) now + count_set (drop (i + 1) flags) ≤ bound
few_next flags i place n bound now is at few =
    let same : count_by (λ (flag : Bool). flag) now ≡ count_by (λ flag. flag) (unwrap_or (slice_get flags i) []) =
    ap (count_by (λ flag. flag)) (is ∙ ap (λ k. unwrap_or (slice_get flags k) []) at) in
    rw add-one (omega (arith, count_from flags i, same, few))

-- ---- flags that are set

-- one number more
pub flags_more : (n : ℕ) (numbers : List ℕ) (i d : ℕ) (old before new : Bool) → i < length numbers
    → before ≡ (old || list_any (nat_eq n) (take i numbers))
    → new ≡ (before || nat_eq n (get_or numbers i d)) → new ≡ (old || list_any (nat_eq n) (take (i + 1) numbers))
flags_more n numbers i d old before new lt so e =
    e ∙ ap (λ b. b || nat_eq n (get_or numbers i d)) so
    ∙ or_assoc old (list_any (nat_eq n) (take i numbers)) (nat_eq n (get_or numbers i d))
    ∙ ap (λ b. old || b) (sym (list_any_more (nat_eq n) numbers i d lt))
  where
    or_assoc : (a b c : Bool) → ((a || b) || c) ≡ (a || (b || c))
    or_assoc true b c = refl
    or_assoc false b c = refl

-- a test of one number more
pub set_more : (n i : ℕ) (old before new here there : Bool) → before ≡ (old || (ltb n i && there))
    → (n ≡ i → here ≡ there) → new ≡ (before || (nat_eq n i && here)) → new ≡ (old || (ltb n (i + 1) && there))
set_more n i old before new here there so at e =
    e ∙ ap (λ b. b || (nat_eq n i && here)) so
    ∙ elim (cases_eq n i) [
      | inl same ↦
          let before_it : ltb n i ≡ false = grind (arith, nat_tests) in
          let up_to_it : ltb n (i + 1) ≡ true = grind (arith, nat_tests) in
          ap₂ (λ a b. (old || (a && there)) || (b && here)) before_it (eq-eqb n i same)
          ∙ ap (λ b. b || here) (or-false old)
          ∙ ap (λ b. old || b) (at same)
          ∙ ap (λ a. old || (a && there)) (sym up_to_it)
      | inr other ↦
          let as_before : ltb n (i + 1) ≡ ltb n i = grind (arith, nat_tests) in
          ap (λ b. (old || (ltb n i && there)) || (b && here)) (ne_eqb n i other)
          ∙ or-false (old || (ltb n i && there))
          ∙ ap (λ a. old || (a && there)) (sym as_before)
    ]

-- no flag is set
pub none_set : (count n : ℕ) → flag_at (replicate count false) n ≡ false
none_set zero n = refl
none_set (suc count) zero = refl
none_set (suc count) (suc n) = none_set count n

-- ---- lists, one after another
