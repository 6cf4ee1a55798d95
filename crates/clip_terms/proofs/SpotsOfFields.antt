-- The spots of a field's numbers: each position of each number, in the order of the numbers.
use Rattle.std.proofs.Common.{◌≡◌, ℕ, zero, suc, ◌+◌, ◌-◌, ◌<◌, ◌≤◌, Bool, true, false, ◌&&◌, ◌||◌, nat_lt, nat_le}
use Rattle.std.proofs.Common.{nat_eq, List, [], ◌∷◌, ◌++◌, All, length, map, take, drop, get_or, Option, Some, None}
use Rattle.std.proofs.Common.{option_map, unwrap_or, slice_get, is_lt, refl, sym, ap, ◌∙◌, subst, arith, eqb-true}
use Rattle.std.proofs.Common.{eq-eqb, inl, inr}
use Rattle.std.specs.List.{list_any}
use Rattle.std.specs.List.Sorted.{IsPermutation, IsPartitionedBy, IsPartitionPoint, IsSortedByKey, IsStrictlySortedBy}
use Rattle.std.specs.Ordering.{ordering_then}
use Rattle.std.specs.Cmp.{tied_itself}
use Rattle.std.specs.Cmp.Lexicographic.{nat_list_cmp_total}
use Rattle.std.specs.declared.cmp.Ordering.{Ordering}
use Rattle.std.specs.declared.cmp.Ordering.TheVariants.{Less, Equal, Greater}
use Rattle.std.proofs.lemmas.Bool.{cases_lt, or_cases, or_left, or_right, and_parts, and_from, ltb-true, lt-ltb}
use Rattle.std.proofs.lemmas.Bool.{leb-true, le-leb, false≢true, true≢false}
use Rattle.std.proofs.lemmas.List.{get_or-drop, get_or-take, length-map, length-drop, length-take-le}
use Rattle.std.proofs.lemmas.List.Folds.{list_any-append, list_any_at}
use Rattle.std.proofs.lemmas.List.Sorted.{list_any-IsPermutation, ranks_by, sorted_far}
use Rattle.std.proofs.lemmas.Option.{slice_get-map, unwrap_or-slice_get, slice_get_past}
use Rattle.clip_words.specs.Order.{bytes_cmp}
use Rattle.clip_meaning.specs.Index.{numbered}
use Rattle.clip_extract.specs.Keys.{KeyValue, Any, Word, key_cmp}
use Rattle.clip_extract.specs.Covering.{field_keys}
use Rattle.clip_terms.specs.declared.field_numbers.Spot.{Spot}
use Rattle.clip_terms.specs.Terms.{number_of}
use Rattle.clip_terms.specs.Steps.Numbers.{number_at}
use Rattle.clip_terms.specs.Steps.FieldNumbers.{spot_of, spots_of, HasEach, NumbersRise, AreSpotsOf}
use Rattle.clip_terms.proofs.Headings.{rises_at}
use Rattle.clip_terms.proofs.NumberedKeys.{term_of_number}
use Rattle.clip_terms.proofs.PlacedWords.{posted}

abbrev Place : Type 0
Place = List ℕ × ℕ

-- no word is below one before it
abbrev Rises : List Place → Type 0
Rises ps = (i j : ℕ) (d : Place) → i ≤ j → j < length ps → is_lt (bytes_cmp (get_or ps j d).0 (get_or ps i d).0) ≡ false

rises : (ps : List Place) → IsSortedByKey (λ (p : Place). p.0) bytes_cmp ps → Rises ps
rises ps sorted = sorted_far (λ (x y : Place). is_lt (bytes_cmp x.0 y.0))
    (ranks_by nat_list_cmp_total (λ (p : Place). p.0)) ps sorted

tail_rises : (p : Place) (ps : List Place) → Rises (p ∷ ps) → Rises ps
tail_rises p ps up i j d le lt = up (suc i) (suc j) d (omega arith) (omega arith)

-- ---- the numbers of words rise with the words

words_less : (name v w : List ℕ) → key_cmp (Word name w) (Word name v) ≡ Less → bytes_cmp w v ≡ Less
words_less name v w e = left (bytes_cmp w v)
    (sym (ap (λ r. ordering_then r (ordering_then (bytes_cmp w v) Equal)) (tied_itself nat_list_cmp_total name)) ∙ e)
  where
    left : (o : Ordering) → ordering_then o Equal ≡ Less → o ≡ Less
    left Less e = refl
    left Equal e = e
    left Greater e = e

pub numbers_rise : (terms : List KeyValue) (name v w : List ℕ) (m n : ℕ) → IsStrictlySortedBy key_cmp terms
    → number_of terms (Word name v) ≡ Some m → number_of terms (Word name w) ≡ Some n
    → is_lt (bytes_cmp w v) ≡ false → m ≤ n
numbers_rise terms name v w m n strict of_v of_w le =
    elim (cases_lt n m) [
      | inl less ↦
          let at_v = term_of_number terms (Word name v) m of_v in
          let at_w = term_of_number terms (Word name w) n of_w in
          let read_v : get_or terms m Any ≡ Word name v = sym (unwrap_or-slice_get terms m Any) ∙ at_v.0 in
          let read_w : get_or terms n Any ≡ Word name w = sym (unwrap_or-slice_get terms n Any) ∙ at_w.0 in
          let order : key_cmp (Word name w) (Word name v) ≡ Less = (λ i. key_cmp (sym read_w i) (sym read_v i))
          ∙ rises_at terms strict n m Any less at_v.1 in
          absurd (true≢false (sym (ap is_lt (words_less name v w order)) ∙ le))
      | inr ge ↦ ge
    ]

-- ---- the spots of postings

abbrev Numbered : (terms : List KeyValue) (name : List ℕ) (numbers : List (Option ℕ)) → List Place → Type 0
Numbered terms name numbers ps = (j : ℕ) (d : Place) → j < length ps → number_at numbers (get_or ps j d).1
    ≡ number_of terms (Word name (get_or ps j d).0)

module _ (numbers : List (Option ℕ)) where
  abbrev passes_at : (Spot → Bool) → Option ℕ → ℕ → Bool
  passes_at test None position = false
  passes_at test (Some number) position = test (record { number = number; position = position })

  or_false : (b : Bool) → (b || false) ≡ b
  or_false true = refl
  or_false false = refl

  one_spot : (test : Spot → Bool) (o : Option ℕ) (k : ℕ) → list_any test (spot_of o k) ≡ passes_at test o k
  one_spot test None k = refl
  one_spot test (Some n) k = or_false (test (record { number = n; position = k }))

  spots_any : (test : Spot → Bool) (ps : List Place) → list_any test (spots_of numbers ps)
      ≡ list_any (λ (p : Place). passes_at test (number_at numbers p.1) p.1) ps
  spots_any test [] = refl
  spots_any test (p ∷ ps) =
      list_any-append test (spot_of (number_at numbers p.1) p.1) (spots_of numbers ps)
      ∙ (λ i. one_spot test (number_at numbers p.1) p.1 i || spots_any test ps i)

  numbered_any : (t : ℕ → Bool) (ws : List (List ℕ)) (n k : ℕ) → k < length ws → t (n + k) ≡ true
      → list_any (λ (p : Place). t p.1) (numbered n ws) ≡ true
  numbered_any t [] n k lt here = absurd (omega arith)
  numbered_any t (w ∷ ws) n zero lt here = let same : n + 0 ≡ n = omega arith in
      or_left (t n) _ (ap t (sym same) ∙ here)
  numbered_any t (w ∷ ws) n (suc k) lt here = let same : (n + 1) + k ≡ n + suc k = omega arith in
      or_right (t n) _ (numbered_any t ws (n + 1) k (omega arith) (ap t same ∙ here))

  -- each position with a number is among them
  pub spots_each : (ws : List (List ℕ)) (ps : List Place) (n : ℕ) → length numbers ≡ length ws
      → IsPermutation (numbered 0 ws) ps → HasEach numbers n (spots_of numbers ps)
  spots_each ws ps n long perm = record {
    each = λ position is test here.
        let passing : ℕ → Bool = λ k. passes_at test (number_at numbers k) k in
        let from : 0 + position ≡ position = omega arith in
        let lt : position < length ws = omega (arith, long, inside position is) in
        spots_any test ps
        ∙ sym (list_any-IsPermutation (λ (p : Place). passing p.1) (numbered 0 ws) ps perm)
        ∙ numbered_any passing ws 0 position lt (ap passing from ∙ ap (λ o. passes_at test o position) is ∙ here);
  }
    where
      inside : (position : ℕ) → number_at numbers position ≡ Some n → position < length numbers
      inside position is =
          elim (cases_lt position (length numbers)) [
            | inl lt ↦ lt
            | inr past ↦ let none : number_at numbers position ≡ None =
                ap (λ (o : Option (Option ℕ)). unwrap_or o None) (slice_get_past numbers position past) in
                absurd (no_some none is)
          ]
        where
          no_some : {o : Option ℕ} → o ≡ None → o ≡ Some n → ⊥
          no_some a b = cc

  module _ (terms : List KeyValue) (name : List ℕ) (strict : IsStrictlySortedBy key_cmp terms) where
    abbrev From : ℕ → List Spot → Type 0
    From low spots = (j : ℕ) (d : Spot) → j < length spots → low ≤ (get_or spots j d).number

    spots_from : (low : ℕ) (ps : List Place)
        → ((j : ℕ) (d : Place) (m : ℕ) → j < length ps → number_at numbers (get_or ps j d).1 ≡ Some m → low ≤ m)
        → From low (spots_of numbers ps)
    spots_from low [] all = λ j d lt. absurd (omega arith)
    spots_from low (p ∷ ps) all =
        by_number (spots_from low ps (λ j d m lt is. all (suc j) d m (omega arith) is)) (number_at numbers p.1) refl
      where
        more : From low (spots_of numbers ps) → (n : ℕ) → low ≤ n
            → From low (record { number = n; position = p.1 } ∷ spots_of numbers ps)
        more rest n le zero d lt = le
        more rest n le (suc j) d lt = rest j d (omega arith)

        by_number : From low (spots_of numbers ps) → (o : Option ℕ) → number_at numbers p.1 ≡ o
            → From low (spot_of o p.1 ++ spots_of numbers ps)
        by_number rest None is = rest
        by_number rest (Some n) is = more rest n (all 0 p n (omega arith) is)

    cons_rise : (s : Spot) (spots : List Spot) → NumbersRise spots → From s.number spots → NumbersRise (s ∷ spots)
    cons_rise s spots rest from = record { rise = rise }
      where
        rise : (i j : ℕ) (d : Spot) → i ≤ j → j < length (s ∷ spots) → (get_or (s ∷ spots) i d).number
            ≤ (get_or (s ∷ spots) j d).number
        rise zero zero d le lt = omega arith
        rise zero (suc j) d le lt = from j d (omega arith)
        rise (suc i) zero d le lt = absurd (omega arith)
        rise (suc i) (suc j) d le lt = rest.rise i j d (omega arith) (omega arith)

    -- their numbers rise
    pub spots_rise : (ps : List Place) → Numbered terms name numbers ps → Rises ps → NumbersRise (spots_of numbers ps)
    spots_rise [] all up = record { rise = λ i j d le lt. absurd (omega arith) }
    spots_rise (p ∷ ps) all up =
        by_number (spots_rise ps (λ j d lt. all (suc j) d (omega arith)) (tail_rises p ps up)) (number_at numbers p.1)
        refl
      where
        by_number : NumbersRise (spots_of numbers ps) → (o : Option ℕ) → number_at numbers p.1 ≡ o
            → NumbersRise (spot_of o p.1 ++ spots_of numbers ps)
        by_number rest None is = rest
        by_number rest (Some n) is =
            cons_rise (record { number = n; position = p.1 }) (spots_of numbers ps) rest
            (spots_from n ps (λ j d m lt later.
            numbers_rise terms name p.0 (get_or ps j d).0 n m strict (sym (all 0 p (omega arith))
            ∙ is) (sym (all (suc j) d (omega arith)) ∙ later) (up 0 (suc j) d (omega arith) (omega arith))))

word_number : (terms : List KeyValue) (name : List ℕ) (ws : List (List ℕ)) (k : ℕ) (w : List ℕ)
    → slice_get ws k ≡ Some w → number_at (map (number_of terms) (map (Word name) ws)) k ≡ number_of terms (Word name w)
word_number terms name ws k w is =
    ap (λ (o : Option (Option ℕ)). unwrap_or o None)
    (slice_get-map (number_of terms) (map (Word name) ws) k
    ∙ ap (option_map (number_of terms)) (slice_get-map (Word name) ws k ∙ ap (option_map (Word name)) is))

pub field_spots : (terms : List KeyValue) (field : List ℕ × List (List ℕ)) (numbers : List (Option ℕ))
    (ps : List Place) → IsStrictlySortedBy key_cmp terms → numbers ≡ map (number_of terms) (field_keys field)
    → IsPermutation (numbered 0 field.1) ps → IsSortedByKey (λ (p : Place). p.0) bytes_cmp ps
    → AreSpotsOf numbers (spots_of numbers ps)
field_spots terms field numbers ps strict are perm sorted =
    let long : length numbers ≡ length field.1 = ap length are ∙ length-map (field_keys field) (number_of terms)
    ∙ length-map field.1 (Word field.0) in
    let words_at : All (λ (p : Place). slice_get field.1 p.1 ≡ Some p.0) ps = posted field.1 ps perm in
    record {
      rise = spots_rise numbers terms field.0 strict ps
          (λ j d lt. ap (λ ns. number_at ns (get_or ps j d).1) are
          ∙ word_number terms field.0 field.1 (get_or ps j d).1 (get_or ps j d).0 (words_at j d lt))
          (rises ps sorted);
      all = λ n. spots_each numbers field.1 ps n long perm;
    }

-- ---- the spots of one number

abbrev pub below : ℕ → Spot → Bool
below n s = nat_lt s.number n

abbrev pub upto : ℕ → Spot → Bool
upto n s = nat_le s.number n

pub below_first : (n : ℕ) (spots : List Spot) → NumbersRise spots → IsPartitionedBy (below n) spots
below_first n spots up i j d le lt less = lt-ltb _ _ (omega (arith, up.rise i j d le lt, ltb-true _ _ less))

pub upto_first : (n : ℕ) (spots : List Spot) → NumbersRise spots → IsPartitionedBy (upto n) spots
upto_first n spots up i j d le lt less = le-leb _ _ (omega (arith, up.rise i j d le lt, leb-true _ _ less))

pub rise_after : (n : ℕ) (spots rest : List Spot) → NumbersRise spots → rest ≡ drop n spots → NumbersRise rest
rise_after n spots rest up is = subst NumbersRise (sym is) (record { rise = rise })
  where
    rise : (i j : ℕ) (d : Spot) → i ≤ j → j < length (drop n spots) → (get_or (drop n spots) i d).number
        ≤ (get_or (drop n spots) j d).number
    rise i j d le lt =
        let low : (get_or (drop n spots) i d).number ≡ (get_or spots (n + i) d).number =
        ap (λ (s : Spot). s.number) (get_or-drop n spots i d) in
        let high : (get_or (drop n spots) j d).number ≡ (get_or spots (n + j) d).number =
        ap (λ (s : Spot). s.number) (get_or-drop n spots j d) in
        omega (arith, low, high, up.rise (n + i) (n + j) d (omega arith) (omega (arith, length-drop n spots, lt)))

abbrev At : (Spot → Bool) → List Spot → Type 0
At p spots = (i : ℕ) × (i < length spots) × ((d : Spot) → p (get_or spots i d) ≡ true)

any_at : (p : Spot → Bool) (spots : List Spot) → list_any p spots ≡ true → At p spots
any_at p [] any = absurd (false≢true any)
any_at p (s ∷ spots) any =
    elim (or_cases (p s) _ any) [
      | inl here ↦ (0, omega arith, λ d. here)
      | inr later ↦ let there = any_at p spots later in (suc there.0, omega (arith, there.1), there.2)
    ]

-- what two searches leave has each position of the number
pub number_spots : (numbers : List (Option ℕ)) (spots rest found : List Spot) (n start count : ℕ)
    → AreSpotsOf numbers spots → start ≤ length spots
    → IsPartitionPoint (λ s. below n s ≡ true) (λ s. below n s ≡ false) spots start
    → rest ≡ drop start spots → count ≤ length rest
    → IsPartitionPoint (λ s. upto n s ≡ true) (λ s. upto n s ≡ false) rest count → found ≡ take count rest
    → HasEach numbers n found
number_spots numbers spots rest found n start count are bound lower is within upper taken = record {
  each = λ position at test here.
      let wanted : Spot → Bool = λ s. nat_eq s.number n && test s in
      let any : list_any wanted spots ≡ true =
      (are.all n).each position at wanted (and_from (nat_eq n n) _ (eq-eqb n n refl) here) in
      by_place test (any_at wanted spots any);
}
  where
    none : Spot
    none = record { number = 0; position = 0 }

    by_place : (test : Spot → Bool) → At (λ s. nat_eq s.number n && test s) spots → list_any test found ≡ true
    by_place test there =
        let i : ℕ = there.0 in
        let lt : i < length spots = there.1 in
        let parts = and_parts (nat_eq (get_or spots i none).number n) _ (there.2 none) in
        let number : (get_or spots i none).number ≡ n = eqb-true _ n parts.0 in
        let past : start ≤ i =
        elim (cases_lt i start) [
          | inl less ↦ absurd (omega (arith, number, ltb-true _ n (lower.0 i none (omega arith) less)))
          | inr ge ↦ ge
        ] in
        let index : start + (i - start) ≡ i = omega arith in
        let read : get_or rest (i - start) none ≡ get_or spots i none =
        ap (λ (xs : List Spot). get_or xs (i - start) none) is ∙ get_or-drop start spots (i - start) none
        ∙ ap (λ k. get_or spots k none) index in
        let long : length rest ≡ length spots - start = ap length is ∙ length-drop start spots in
        let before : i - start < count =
        elim (cases_lt (i - start) count) [
          | inl less ↦ less
          | inr ge ↦ absurd (true≢false (sym (ap (λ (s : Spot). nat_le s.number n) read
              ∙ le-leb _ n (omega (arith, number))) ∙ upper.1 (i - start) none ge (omega (arith, long, lt, past))))
        ] in
        let kept : get_or found (i - start) none ≡ get_or spots i none =
        ap (λ (xs : List Spot). get_or xs (i - start) none) taken ∙ get_or-take count rest (i - start) none before
        ∙ read in
        list_any_at test found (i - start) none
        (omega (arith, before, ap length taken, length-take-le count rest within)) (ap test kept ∙ parts.1)
