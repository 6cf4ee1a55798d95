-- The terms under a heading, and where one of a text stands among them.
use Rattle.std.proofs.Common.{◌≡◌, ℕ, zero, suc, ◌+◌, ◌<◌, ◌≤◌, Bool, true, false, List, [], ◌∷◌, length, map, get_or}
use Rattle.std.proofs.Common.{Option, Some, None, Ordering, Less, Equal, Greater, is_lt, is_le, is_eq, is_gt, refl, sym}
use Rattle.std.proofs.Common.{ap, ap₂, ◌∙◌, arith, inl, inr}
use Rattle.std.specs.Ordering.{ordering_then, ordering_reverse, nat_cmp, MatchOrdering}
use Rattle.std.specs.Cmp.{IsTotalOrder, Equal-is, on_total, then_total, nat_cmp_total, tied_itself}
use Rattle.std.specs.Cmp.Lexicographic.{nat_list_cmp_total, texts_ties}
use Rattle.std.specs.Str.{bytes_eq}
use Rattle.std.specs.List.Sorted.{IsStrictlySortedBy, IsPartitionedBy, IsPartitionPoint}
use Rattle.std.proofs.lemmas.Bool.{cases_lt, true≢false, false≢true, false_from_ne_true}
use Rattle.std.proofs.lemmas.Cmp.{ranked}
use Rattle.std.proofs.lemmas.List.{get_or-map, length-map}
use Rattle.clip_words.specs.Order.{bytes_cmp}
use Rattle.clip_meaning.proofs.Fields.{bytes_exact}
use Rattle.clip_extract.specs.Keys.{KeyValue, Any, Word, Front, key_of, key_cmp, is_same, rank, field_of, text_of}
use Rattle.clip_extract.specs.declared.key.Key.{Key}
use Rattle.clip_extract.specs.declared.key.Key.TheVariants as variant
use Rattle.clip_extract.proofs.Members.{less_from}
use Rattle.clip_extract.proofs.Order.{key_cmp_same, same_key}
use Rattle.clip_terms.specs.Terms.{number_of}
use Rattle.clip_terms.specs.Steps.Leads.{heading, heading_cmp, IsPart, TextsRise, IsPlaceOf}
use Rattle.clip_terms.proofs.Numbers.{IsRising, above_at, found_number, missing_number}

abbrev pub Heading : Type 0
Heading = ℕ × List ℕ

heading_cmp_total : IsTotalOrder heading_cmp
heading_cmp_total = then_total (on_total (λ (h : Heading). h.0) nat_cmp_total)
    (on_total (λ (h : Heading). h.1) nat_list_cmp_total)

same_heading : (x y : Heading) → heading_cmp x y ≡ Equal → x ≡ y
same_heading x y e = by_order (nat_cmp x.0 y.0) (ranked x.0 y.0 _ refl) e
  where
    by_order : (o : Ordering) → MatchOrdering o (x.0 < y.0) (x.0 ≡ y.0) (y.0 < x.0)
        → ordering_then o (bytes_cmp x.1 y.1) ≡ Equal → x ≡ y
    by_order Less less e = absurd (false≢true (ap is_eq e))
    by_order Equal same e = let texts = bytes_exact x.1 y.1 e in λ i. (same i, texts i)
    by_order Greater more e = absurd (false≢true (ap is_eq e))

-- ---- keys compare by their headings, and then by their texts

then_equal : (f w : Ordering) → ordering_then f (ordering_then w Equal) ≡ ordering_then f w
then_equal Less w = refl
then_equal Equal Less = refl
then_equal Equal Equal = refl
then_equal Equal Greater = refl
then_equal Greater w = refl

pub split : (x y : KeyValue)
    → key_cmp x y ≡ ordering_then (heading_cmp (heading x) (heading y)) (bytes_cmp (text_of x) (text_of y))
split Any Any = refl
split Any (Word g v) = refl
split Any (Front g v) = refl
split (Word f w) Any = refl
split (Word f w) (Word g v) = then_equal (bytes_cmp f g) (bytes_cmp w v)
split (Word f w) (Front g v) = refl
split (Front f w) Any = refl
split (Front f w) (Word g v) = refl
split (Front f w) (Front g v) = then_equal (bytes_cmp f g) (bytes_cmp w v)

-- keys of one rank and one field compare as one heading
pub one_heading : (x y : KeyValue) → rank x ≡ rank y → bytes_eq (field_of x) (field_of y) ≡ true
    → Equal ≡ heading_cmp (heading x) (heading y)
one_heading x y ranks fields =
    let rank_ties : nat_cmp (rank x) (rank y) ≡ Equal =
    ap (nat_cmp (rank x)) (sym ranks) ∙ tied_itself nat_cmp_total (rank x) in
    let field_ties : bytes_cmp (field_of x) (field_of y) ≡ Equal =
    (Equal-is (bytes_cmp (field_of x) (field_of y))).0 (sym (texts_ties (field_of x) (field_of y)) ∙ fields) in
    sym (ap₂ ordering_then rank_ties field_ties)

-- of one heading, by their texts alone
under_one : (h : Heading) (x y : KeyValue) → heading x ≡ h → heading y ≡ h
    → key_cmp x y ≡ bytes_cmp (text_of x) (text_of y)
under_one h x y a b =
    split x y
    ∙ (λ i. ordering_then (heading_cmp (a i) (b i)) (bytes_cmp (text_of x) (text_of y)))
    ∙ ap (λ o. ordering_then o (bytes_cmp (text_of x) (text_of y))) (tied_itself heading_cmp_total h)

pub rises_at : (ts : List KeyValue) → IsRising ts → (m n : ℕ) (d : KeyValue) → m < n → n < length ts
    → key_cmp (get_or ts m d) (get_or ts n d) ≡ Less
unfolding IsStrictlySortedBy
rises_at [] up m n d lt inside = absurd (omega arith)
rises_at (t ∷ ts) up zero zero d lt inside = absurd (omega arith)
rises_at (t ∷ ts) up zero (suc n) d lt inside = above_at t ts n d up.0 (omega arith)
rises_at (t ∷ ts) up (suc m) zero d lt inside = absurd (omega arith)
rises_at (t ∷ ts) up (suc m) (suc n) d lt inside = rises_at ts up.1 m n d (omega arith) (omega arith)

-- ---- the headings of terms never fall

no_higher : (o t : Ordering) → ordering_then o t ≡ Less → is_gt o ≡ false
no_higher Less t e = refl
no_higher Equal t e = refl
no_higher Greater t e = absurd (false≢true (ap is_lt e))

headings_rise : (ts : List KeyValue) → IsRising ts → (m n : ℕ) (d : KeyValue) → m ≤ n → n < length ts
    → is_gt (heading_cmp (heading (get_or ts m d)) (heading (get_or ts n d))) ≡ false
headings_rise ts up m n d le inside =
    elim (cases_lt m n) [
      | inl lt ↦ no_higher _ _ (sym (split (get_or ts m d) (get_or ts n d)) ∙ rises_at ts up m n d lt inside)
      | inr ge ↦
          let same : m ≡ n = omega arith in
          ap (λ k. is_gt (heading_cmp (heading (get_or ts k d)) (heading (get_or ts n d)))) same
          ∙ ap is_gt (tied_itself heading_cmp_total (heading (get_or ts n d)))
    ]

-- what is not above y is below what y is below
below_then : (x y z : Heading) → is_gt (heading_cmp x y) ≡ false → heading_cmp y z ≡ Less → heading_cmp x z ≡ Less
below_then x y z le less = by_order (heading_cmp x y) refl le
  where
    by_order : (o : Ordering) → heading_cmp x y ≡ o → is_gt o ≡ false → heading_cmp x z ≡ Less
    by_order Less e le = heading_cmp_total.trans x y z e less
    by_order Equal e le = heading_cmp_total.congr x y z e ∙ less
    by_order Greater e le = absurd (true≢false le)

lower_still : (x y z : Heading) → is_gt (heading_cmp x y) ≡ false → is_lt (heading_cmp y z) ≡ true
    → is_lt (heading_cmp x z) ≡ true
lower_still x y z le less = ap is_lt (below_then x y z le (less_from (heading_cmp y z) less))

-- and not above what y is not above
upto_still : (x y z : Heading) → is_gt (heading_cmp x y) ≡ false → is_le (heading_cmp y z) ≡ true
    → is_le (heading_cmp x z) ≡ true
upto_still x y z le upto = by_order (heading_cmp y z) refl upto
  where
    not_above : (o : Ordering) → is_gt o ≡ false → is_le o ≡ true
    not_above Less e = refl
    not_above Equal e = refl
    not_above Greater e = absurd (true≢false e)

    by_order : (o : Ordering) → heading_cmp y z ≡ o → is_le o ≡ true → is_le (heading_cmp x z) ≡ true
    by_order Less e h = ap is_le (below_then x y z le e)
    by_order Equal e h = ap (λ v. is_le (heading_cmp x v)) (sym (same_heading y z e)) ∙ not_above (heading_cmp x y) le
    by_order Greater e h = absurd (false≢true h)

-- ---- a binary search for the terms under a heading

level : (o : Ordering) → is_lt o ≡ false → is_le o ≡ true → o ≡ Equal
level Less a b = absurd (true≢false a)
level Equal a b = refl
level Greater a b = absurd (false≢true b)

le_of_lt : (o : Ordering) → is_lt o ≡ true → is_le o ≡ false → ⊥
le_of_lt Less a b = true≢false b
le_of_lt Equal a b = false≢true a
le_of_lt Greater a b = false≢true a

module _ (keys : List Key) where
  abbrev terms : List KeyValue
  terms = map key_of keys

  long : length terms ≡ length keys
  long = length-map keys key_of

  at_key : (n : ℕ) (k : Key) (d : KeyValue) → n < length keys → get_or terms n d ≡ key_of (get_or keys n k)
  at_key n k d inside = get_or-map key_of keys n k d inside

  -- what holds of later headings holds of earlier ones
  pub partitioned : IsRising terms → (p : Heading → Bool)
      → ((x y : Heading) → is_gt (heading_cmp x y) ≡ false → p y ≡ true → p x ≡ true)
      → IsPartitionedBy (λ k. p (heading (key_of k))) keys
  partitioned up p falls i j k le inside h =
      let first = at_key i k (key_of k) (omega arith) in
      let second = at_key j k (key_of k) inside in
      falls (heading (key_of (get_or keys i k))) (heading (key_of (get_or keys j k)))
      (sym (λ t. is_gt (heading_cmp (heading (first t)) (heading (second t))))
      ∙ headings_rise terms up i j (key_of k) le (omega (arith, long))) h

  pub lower_first : (h : Heading) → IsRising terms
      → IsPartitionedBy (λ k. is_lt (heading_cmp (heading (key_of k)) h)) keys
  lower_first h up = partitioned up (λ x. is_lt (heading_cmp x h)) (λ x y. lower_still x y h)

  pub upto_first : (h : Heading) → IsRising terms
      → IsPartitionedBy (λ k. is_le (heading_cmp (heading (key_of k)) h)) keys
  upto_first h up = partitioned up (λ x. is_le (heading_cmp x h)) (λ x y. upto_still x y h)

  -- between the places that two searches end at stand just the terms under the heading
  module _ (h : Heading) (start end : ℕ) (low : start ≤ length keys) (high : end ≤ length keys)
      (lower : IsPartitionPoint (λ k. is_lt (heading_cmp (heading (key_of k)) h)
      ≡ true) (λ k. is_lt (heading_cmp (heading (key_of k)) h) ≡ false) keys start)
      (upto : IsPartitionPoint (λ k. is_le (heading_cmp (heading (key_of k)) h)
      ≡ true) (λ k. is_le (heading_cmp (heading (key_of k)) h) ≡ false) keys end) where
    ends_rise : start ≤ end
    ends_rise =
        elim (cases_lt end start) [
          | inl lt ↦ absurd (le_of_lt _ (lower.0 end variant.Any (omega arith) lt)
              (upto.1 end variant.Any (omega arith) (omega arith)))
          | inr ge ↦ ge
        ]

    just_these : (n : ℕ) (d : KeyValue) → start ≤ n → n < end → heading (get_or terms n d) ≡ h
    just_these n d a b =
        ap heading (at_key n variant.Any d (omega arith))
        ∙ same_heading _ h (level _ (lower.1 n variant.Any a (omega arith)) (upto.0 n variant.Any (omega arith) b))

    tied : (n : ℕ) (d : KeyValue) → n < length keys → heading (get_or terms n d) ≡ h
        → heading_cmp (heading (key_of (get_or keys n variant.Any))) h ≡ Equal
    tied n d inside e = ap (λ x. heading_cmp x h) (ap heading (sym (at_key n variant.Any d inside)) ∙ e)
        ∙ tied_itself heading_cmp_total h

    all_these : (n : ℕ) (d : KeyValue) → n < length terms → heading (get_or terms n d) ≡ h → (start ≤ n) × (n < end)
    all_these n d inside e =
        let within : n < length keys = omega (arith, long) in
        let tie = tied n d within e in (
          elim (cases_lt n start) [
            | inl lt ↦
                absurd (false≢true (sym (ap is_lt tie) ∙ lower.0 n variant.Any (omega arith) lt))
            | inr ge ↦ ge
          ],
          elim (cases_lt n end) [
            | inl lt ↦ lt
            | inr ge ↦
                absurd (true≢false (sym (ap is_le tie) ∙ upto.1 n variant.Any ge within))
          ],
        )

    pub part_found : IsPart terms h start end
    part_found = record { rises = ends_rise; within = omega (arith, long); just = just_these; all = all_these }

-- ---- a binary search for a text

pub texts_rise : (ts : List KeyValue) (h : Heading) (start end : ℕ) → IsRising ts → IsPart ts h start end
    → TextsRise ts start end
texts_rise ts h start end up part m n d a lt b =
    let within = part.within in
    sym (under_one h (get_or ts m d) (get_or ts n d) (part.just m d a (omega arith)) (part.just n d (omega arith) b))
    ∙ rises_at ts up m n d lt (omega arith)

module _ (ts : List KeyValue) (start end : ℕ) (text : List ℕ) (rise : TextsRise ts start end) (middle : ℕ)
    (k : KeyValue)
    (at : (d : KeyValue) → get_or ts middle d ≡ k) (from : start ≤ middle) (upto : middle < end) where
  -- the text in the middle is below: so are those before it
  pub below_middle : bytes_cmp (text_of k) text ≡ Less → (n : ℕ) (d : KeyValue) → start ≤ n → n < middle + 1
      → bytes_cmp (text_of (get_or ts n d)) text ≡ Less
  below_middle less n d a b =
      let here : bytes_cmp (text_of (get_or ts middle d)) text ≡ Less = ap (λ x. bytes_cmp (text_of x) text) (at d)
      ∙ less in
      elim (cases_lt n middle) [
        | inl lt ↦ nat_list_cmp_total.trans _ _ text (rise n middle d a lt upto) here
        | inr ge ↦ let same : n ≡ middle = omega arith in ap (λ j. bytes_cmp (text_of (get_or ts j d)) text) same ∙ here
      ]

  -- it is above: so are those after it
  pub above_middle : bytes_cmp (text_of k) text ≡ Greater → (n : ℕ) (d : KeyValue) → middle ≤ n → n < end
      → bytes_cmp (text_of (get_or ts n d)) text ≡ Greater
  above_middle greater n d a b =
      let here : bytes_cmp (text_of (get_or ts middle d)) text ≡ Greater = ap (λ x. bytes_cmp (text_of x) text) (at d)
      ∙ greater in
      let turned : bytes_cmp text (text_of (get_or ts middle d)) ≡ Less = nat_list_cmp_total.antisymm text _
      ∙ ap ordering_reverse here in
      elim (cases_lt middle n) [
        | inl lt ↦ nat_list_cmp_total.antisymm _ text
            ∙ ap ordering_reverse (nat_list_cmp_total.trans text _ _ turned (rise middle n d from lt b))
        | inr ge ↦ let same : n ≡ middle = omega arith in ap (λ j. bytes_cmp (text_of (get_or ts j d)) text) same ∙ here
      ]

  pub found_middle : bytes_cmp (text_of k) text ≡ Equal → IsPlaceOf ts start end text (Some middle)
  found_middle equal = (from, upto, λ d. ap text_of (at d) ∙ bytes_exact (text_of k) text equal)

-- nothing is left to search
pub found_nowhere : (ts : List KeyValue) (start end : ℕ) (text : List ℕ) (low high : ℕ) → high ≤ low
    → ((n : ℕ) (d : KeyValue) → start ≤ n → n < low → bytes_cmp (text_of (get_or ts n d)) text ≡ Less)
    → ((n : ℕ) (d : KeyValue) → high ≤ n → n < end → bytes_cmp (text_of (get_or ts n d)) text ≡ Greater)
    → IsPlaceOf ts start end text None
found_nowhere ts start end text low high met below above n d a b e =
    let tie : bytes_cmp (text_of (get_or ts n d)) text ≡ Equal =
    ap (λ x. bytes_cmp x text) e ∙ tied_itself nat_list_cmp_total text in
    elim (cases_lt n low) [
      | inl lt ↦ true≢false (sym (ap is_eq tie) ∙ ap is_eq (below n d a lt))
      | inr ge ↦ true≢false (sym (ap is_eq tie) ∙ ap is_eq (above n d (omega arith) b))
    ]

-- what is found in a later part is found in the whole, where all before it is below
pub found_later : (ts : List KeyValue) (start first end : ℕ) (text : List ℕ) → start ≤ first
    → ((n : ℕ) (d : KeyValue) → start ≤ n → n < first → bytes_cmp (text_of (get_or ts n d)) text ≡ Less)
    → (place : Option ℕ) → IsPlaceOf ts first end text place → IsPlaceOf ts start end text place
found_later ts start first end text le below None none =
    λ n d a b e. elim (cases_lt n first) [
      | inl lt ↦ false≢true (sym (ap is_eq (below n d a lt))
          ∙ ap is_eq (ap (λ x. bytes_cmp x text) e ∙ tied_itself nat_list_cmp_total text))
      | inr ge ↦ none n d ge b e
    ]
found_later ts start first end text le below (Some place) found = (let a = found.0 in omega arith, found.1, found.2)

-- ---- the number of a key

module _ (ts : List KeyValue) (q : KeyValue) (start end : ℕ) (up : IsRising ts)
    (part : IsPart ts (heading q) start end) where
  pub placed_number : (n : ℕ) → IsPlaceOf ts start end (text_of q) (Some n) → number_of ts q ≡ Some n
  placed_number n place =
      let within = part.within in
      let x = get_or ts n Any in
      let same : key_cmp x q ≡ Equal = under_one (heading q) x q (part.just n Any place.0 place.1) refl
      ∙ ap (λ t. bytes_cmp t (text_of q)) (place.2 Any) ∙ tied_itself nat_list_cmp_total (text_of q) in
      found_number ts q n Any up (let a = place.1 in omega arith) (key_cmp_same x q same)

  pub no_number : IsPlaceOf ts start end (text_of q) None → number_of ts q ≡ None
  no_number none =
      missing_number ts q
      (λ n d inside. false_from_ne_true (is_same q (get_or ts n d))
      (λ yes. let e = same_key q (get_or ts n d) yes in
      let there = part.all n d inside (ap heading (sym e)) in
      none n d there.0 there.1 (ap text_of (sym e))))
