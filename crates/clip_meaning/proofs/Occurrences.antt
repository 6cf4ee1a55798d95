-- Where words occur, and the postings that this tells: tests of one are tests of the other.
use Rattle.std.proofs.Common.{◌≡◌, ℕ, zero, suc, ◌+◌, ◌<◌, ◌≤◌, Bool, true, false, ◌||◌, List, [], ◌∷◌, length, map}
use Rattle.std.proofs.Common.{take, drop, get_or, refl, sym, ap, subst, ◌∙◌, arith, is_lt}
use Rattle.std.proofs.Common.{Option, Some, None, Bor, option_map, slice_get, unwrap_or, ◌&&◌, ◌++◌, add-zero}
use Rattle.std.proofs.Common.{IsPermutation}
use Rattle.std.specs.List.{list_any, All}
use Rattle.std.specs.List.Sorted.{IsPartitionedBy, IsPartitionPoint}
use Rattle.std.proofs.lemmas.List.{length-map, get_or-take, get_or-drop, length-drop, take-map, drop-map}
use Rattle.std.proofs.lemmas.List.{map_push, take_more}
use Rattle.std.proofs.lemmas.List.Elements.{All-nil, All-cons, All-take, All-drop}
use Rattle.std.proofs.lemmas.List.Sorted.{All-permutation}
use Rattle.clip_meaning.specs.declared.index.Occurrence.{Occurrence}
use Rattle.clip_meaning.specs.Index.{numbered, posting_cmp}
use Rattle.clip_meaning.proofs.Numbered.{rest_dropped}
use Rattle.clip_meaning.specs.Steps.Occurrences.{posting_at, HasLeadOf, IsIndexOf}
use Rattle.clip_grammar.specs.Tokens.{End}
use Rattle.clip_meaning.specs.Meaning.{above, below}
use Rattle.clip_meaning.specs.Steps.Searches.{from_low}
use Rattle.clip_meaning.proofs.WordOrder.{Place, InOrder, first_passes, first_above}

none_some : {A : Type 0} {x : A} → Some x ≡ None → ⊥
none_some h = cc

-- one passes where what it tells does
pub any_told : {X Y : Type 0} (f : X → Y) (t : Y → Bool) (xs : List X) → list_any (λ x. t (f x)) xs
    ≡ list_any t (map f xs)
any_told f t [] = refl
any_told f t (x ∷ xs) = ap (λ b. t (f x) || b) (any_told f t xs)

-- a test of positions
pub any_position : (t : ℕ → Bool) (ps : List Place) (os : List Occurrence)
    → map (λ (o : Occurrence). o.position) os ≡ map (λ (p : Place). p.1) ps
    → list_any (λ (o : Occurrence). t o.position) os ≡ list_any (λ (p : Place). t p.1) ps
any_position t ps os same =
    any_told (λ (o : Occurrence). o.position) t os ∙ ap (list_any t) same
    ∙ sym (any_told (λ (p : Place). p.1) t ps)

-- ---- searches

module _ {X Y : Type 0} (f : X → Y) (t : Y → Bool) where
  pub told_at : (xs : List X) (k : ℕ) (d : Y) (e : X) → k < length xs → get_or (map f xs) k d ≡ f (get_or xs k e)
  told_at [] k d e lt = absurd (omega arith)
  told_at (x ∷ xs) zero d e lt = refl
  told_at (x ∷ xs) (suc k) d e lt = told_at xs k d e (omega arith)

  -- those that pass come before the others
  pub parted_told : (xs : List X) → IsPartitionedBy t (map f xs) → IsPartitionedBy (λ x. t (f x)) xs
  parted_told xs parted i j d le lt passes =
      let long = length-map xs f in
      let here = told_at xs i (f d) d (omega (arith, le, lt)) in
      let there = told_at xs j (f d) d lt in
      sym (ap t here) ∙ parted i j (f d) le (omega (arith, lt, long)) (ap t there ∙ passes)

  -- where they end
  pub point_told : (xs : List X) (n : ℕ) → n ≤ length xs
      → IsPartitionPoint (λ x. t (f x) ≡ true) (λ x. t (f x) ≡ false) xs n
      → IsPartitionPoint (λ y. t y ≡ true) (λ y. t y ≡ false) (map f xs) n
  point_told [] n bound point = (
    λ k d low high. absurd (omega (arith, bound, high)),
    λ k d low high. absurd (omega (arith, high)),
  )
  point_told (x ∷ xs) n bound point = (
    λ k d low high.
        let lt : k < length (x ∷ xs) = omega (arith, bound, high) in
        ap t (told_at (x ∷ xs) k d x lt) ∙ point.0 k x low high,
    λ k d low high.
        let lt : k < length (x ∷ xs) = omega (arith, high, length-map (x ∷ xs) f) in
        ap t (told_at (x ∷ xs) k d x lt) ∙ point.1 k x low lt,
  )

-- ---- parts of a list in order

in_order_at : (ps : List Place) → InOrder ps → (k : ℕ) (d : Place) → k + 1 < length ps
    → is_lt (posting_cmp (get_or ps (k + 1) d) (get_or ps k d)) ≡ false
in_order_at ps order k d lt = order k d (omega arith) lt

pub order_from : (n : ℕ) (ps : List Place) → InOrder ps → InOrder (drop n ps)
order_from n ps order k d low high =
    let long = length-drop n ps in
    (λ i. is_lt (posting_cmp (get_or-drop n ps (k + 1) d i) (get_or-drop n ps k d i)))
    ∙ ap (λ m. is_lt (posting_cmp (get_or ps m d) (get_or ps (n + k) d))) (omega arith)
    ∙ order (n + k) d (omega arith) (omega (arith, high, long))

short_take : {X : Type 0} (n : ℕ) (xs : List X) → (length (take n xs) ≤ n) × (length (take n xs) ≤ length xs)
short_take zero xs = (omega arith, omega arith)
short_take (suc n) [] = (omega arith, omega arith)
short_take (suc n) (x ∷ xs) =
    let short = short_take n xs in
    (omega (arith, short.0), omega (arith, short.1))

pub order_before : (n : ℕ) (ps : List Place) → InOrder ps → InOrder (take n ps)
order_before n ps order k d low high =
    let short = short_take n ps in
    (λ i. is_lt (posting_cmp (get_or-take n ps (k + 1) d (omega (arith, high, short.0)) i)
    (get_or-take n ps k d (omega (arith, high, short.0)) i)))
    ∙ order k d low (omega (arith, high, short.1))

pub positions_told : (words : List (List ℕ)) (os : List Occurrence)
    → map (λ (o : Occurrence). o.position) os ≡ map (λ (p : Place). p.1) (map (posting_at words) os)
positions_told words [] = refl
positions_told words (o ∷ os) = ap (λ ns. o.position ∷ ns) (positions_told words os)

-- parts are in order, with their leads
abbrev AreKept : List (List ℕ) → List Occurrence → Type 0
AreKept words os = InOrder (map (posting_at words) os) × All (HasLeadOf words) os

pub part_before : (words : List (List ℕ)) (os part : List Occurrence) (n : ℕ) → part ≡ take n os
    → InOrder (map (posting_at words) os) → All (HasLeadOf words) os → AreKept words part
part_before words os part n is order leads =
    subst (AreKept words) (sym is) (
      subst InOrder (take-map (posting_at words) n os) (order_before n (map (posting_at words) os) order),
      All-take (HasLeadOf words) n os leads,
    )

pub part_from : (words : List (List ℕ)) (os part : List Occurrence) (n : ℕ) → part ≡ drop n os
    → InOrder (map (posting_at words) os) → All (HasLeadOf words) os → AreKept words part
part_from words os part n is order leads =
    subst (AreKept words) (sym is) (
      subst InOrder (drop-map (posting_at words) n os) (order_from n (map (posting_at words) os) order),
      All-drop (HasLeadOf words) n os leads,
    )

-- where a search among occurrences ends, among postings in order
pub ended : (t : Place → Bool) (words : List (List ℕ)) (os : List Occurrence) (ps : List Place) (n : ℕ)
    → map (posting_at words) os ≡ ps → IsPartitionedBy t ps → n ≤ length os
    → (IsPartitionedBy (λ o. t (posting_at words o)) os
    → IsPartitionPoint (λ o. t (posting_at words o) ≡ true) (λ o. t (posting_at words o) ≡ false) os n)
    → IsPartitionPoint (λ p. t p ≡ true) (λ p. t p ≡ false) ps n
ended t words os ps n told parted bound point =
    subst (λ xs. IsPartitionPoint (λ p. t p ≡ true) (λ p. t p ≡ false) xs n) told
    (point_told (posting_at words) t os n bound
    (point (parted_told (posting_at words) t os (subst (IsPartitionedBy t) (sym told) parted))))

pub bound_told : (words : List (List ℕ)) (os : List Occurrence) (ps : List Place) (n : ℕ)
    → map (posting_at words) os ≡ ps → n ≤ length os → n ≤ length ps
bound_told words os ps n told bound =
    omega (arith, bound, length-map os (posting_at words), ap length told)

-- ---- the first word of a range

-- the word that was read is the first one's
abbrev pub IsFirst : Option (Bor (List ℕ)) → List Place → Type 0
IsFirst found ps = option_map (λ (w : Bor (List ℕ)). w.now) found ≡ option_map (λ (p : Place). p.0) (slice_get ps 0)

pub first_told : (t : List ℕ → Bool) (found : Option (Bor (List ℕ))) (w : Bor (List ℕ)) (ps all : List Place)
    → found ≡ Some w → IsFirst found ps → ps ≡ all → t w.now ≡ first_passes (λ (p : Place). t p.0) all
first_told t found w [] all is first same =
    let told : option_map (λ (w : Bor (List ℕ)). w.now) (Some w) ≡ None =
    sym (ap (option_map (λ w. w.now)) is) ∙ first in
    absurd (none_some told)
first_told t found w (p ∷ ps) all is first same =
    let told : Some w.now ≡ Some p.0 = sym (ap (option_map (λ (w : Bor (List ℕ)). w.now)) is) ∙ first in
    let word : w.now ≡ p.0 = ap (λ o. unwrap_or o []) told in
    ap t word ∙ ap (first_passes (λ (q : Place). t q.0)) same

pub none_told : (t : Place → Bool) (found : Option (Bor (List ℕ))) (ps all : List Place) → found ≡ None
    → IsFirst found ps → ps ≡ all → false ≡ first_passes t all
none_told t found [] all is first same = ap (first_passes t) same
none_told t found (p ∷ ps) all is first same =
    let told : None ≡ Some p.0 = sym (ap (option_map (λ (w : Bor (List ℕ)). w.now)) is) ∙ first in
    absurd (none_some (sym told))

-- of a range that begins at a low end
pub between_told : (low high : End) (found : Option (Bor (List ℕ))) (w : Bor (List ℕ)) (ps all : List Place)
    → found ≡ Some w → IsFirst found ps → ps ≡ from_low low all
    → below high w.now ≡ first_passes (λ (p : Place). above low p.0 && below high p.0) (from_low low all)
between_told low high found w ps all is first same =
    first_told (below high) found w ps (from_low low all) is first same
    ∙ above_all (from_low low all) (λ p ps' e. first_above low (from_low low all) all p refl
    (subst (λ qs. 0 < length qs) (sym e) (omega arith)) (sym (ap (λ qs. get_or qs 0 p) e)))
  where
    above_all : (qs : List Place) → ((p : Place) (rest : List Place) → qs ≡ p ∷ rest → above low p.0 ≡ true)
        → first_passes (λ (p : Place). below high p.0) qs
        ≡ first_passes (λ (p : Place). above low p.0 && below high p.0) qs
    above_all [] h = refl
    above_all (p ∷ rest) h = sym (ap (λ b. b && below high p.0) (h p rest refl))

-- ---- an index of words

-- the posting is of the word at its position
abbrev pub IsOf : List (List ℕ) → Place → Type 0
IsOf words p = p.0 ≡ get_or words p.1 []

numbered_of : (all ws : List (List ℕ)) (n : ℕ) → drop n all ≡ ws → All (IsOf all) (numbered n ws)
numbered_of all [] n rest = All-nil (IsOf all)
numbered_of all (w ∷ ws) n rest =
    let here : w ≡ get_or all n [] =
    sym (ap (λ xs. get_or xs 0 []) rest) ∙ get_or-drop n all 0 [] ∙ ap (λ k. get_or all k []) (add-zero n) in
    All-cons (IsOf all) (w, n) (numbered (n + 1) ws) here (numbered_of all ws (n + 1) (rest_dropped n all w ws rest))

pub each_of : (words : List (List ℕ)) (ps : List Place) → IsPermutation (numbered 0 words) ps → All (IsOf words) ps
each_of words ps same = All-permutation (IsOf words) (numbered 0 words) ps same (numbered_of words words 0 refl)

-- one posting more is told
pub told_more : (words : List (List ℕ)) (os : List Occurrence) (ps : List Place) (i : ℕ) (x : Place) (o : Occurrence)
    → i < length ps → x ≡ get_or ps i x → IsOf words x → o.position ≡ x.1
    → map (posting_at words) os ≡ take i ps → map (posting_at words) (os ++ o ∷ []) ≡ take (i + 1) ps
told_more words os ps i x o lt is of same told =
    let one : posting_at words o ≡ x = (λ j. (get_or words (same j) [], same j)) ∙ (λ j. (sym of j, x.1)) in
    map_push (posting_at words) os o ∙ (λ j. told j ++ one j ∷ []) ∙ ap (λ (p : Place). take i ps ++ p ∷ []) is
    ∙ sym (take_more ps i x lt)

-- all postings are told
pub index_told : (words : List (List ℕ)) (os : List Occurrence) (ps : List Place)
    → IsPermutation (numbered 0 words) ps → InOrder ps → map (posting_at words) os ≡ ps
    → All (HasLeadOf words) os → IsIndexOf words os
index_told words os ps same order told leads = record {
  all = subst (IsPermutation (numbered 0 words)) (sym told) same;
  order = subst InOrder (sym told) order;
  leads = leads;
}
