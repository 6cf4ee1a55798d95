-- Postings in the byte order of their words: where a range of words begins, and what its first word settles.
use Rattle.std.proofs.Common.{◌≡◌, ℕ, zero, suc, ◌+◌, ◌<◌, ◌≤◌, Bool, true, false, not, cond, ◌&&◌, ◌||◌, List, [], ◌∷◌}
use Rattle.std.proofs.Common.{length, drop, filter, get_or, bytes_eq, is_lt, is_gt, is_eq, nat_lt, ◌==◌, Ordering}
use Rattle.std.proofs.Common.{Less, Equal, Greater, refl, sym, ap, ◌∙◌, arith, true≢false, one-add, add-zero}
use Rattle.std.proofs.Common.{length-drop, ◌-◌}
use Rattle.std.proofs.lemmas.List.{get_or-drop}
use Rattle.std.proofs.lemmas.List.Sums.{prefix_len_stops}
use Rattle.std.specs.List.{prefix_len, list_any}
use Rattle.std.specs.List.Sorted.{IsSorted, IsSortedByKey, IsPartitionedBy, IsPartitionPoint}
use Rattle.std.specs.Ordering.{ordering_reverse, ordering_then}
use Rattle.std.specs.Cmp.{IsTotalOrder, on_total, then_total, nat_cmp_total}
use Rattle.std.specs.Cmp.Lexicographic.{nat_list_cmp_total}
use Rattle.std.proofs.Math.Bool.{and-false, not-not}
use Rattle.std.proofs.lemmas.Bool.{not-true, not-false}
use Rattle.std.proofs.lemmas.Cmp.{alike_right}
use Rattle.std.proofs.lemmas.List.Sorted.{sorted_far, ranks_by}
use Rattle.std.proofs.lemmas.Map.Text.{is_eq-slice_cmp}
use borrow.Author.Tests.{eqb-true}
use Rattle.clip_words.specs.Order.{bytes_cmp}
use Rattle.clip_grammar.specs.Tokens.{End}
use Rattle.clip_grammar.proofs.Orderings.{greater}
use Rattle.clip_meaning.proofs.Fields.{prefix_from_point}
use Rattle.clip_meaning.specs.Index.{posting_cmp}
use Rattle.clip_meaning.specs.Steps.Searches.{from_low}
use Rattle.clip_meaning.specs.Meaning.{above, below, begins_with}

abbrev pub Place : Type 0
Place = List ℕ × ℕ

-- ---- the order of texts

-- at least, told from the other side
pub turned : (x y : List ℕ) → is_lt (bytes_cmp y x) ≡ false → is_gt (bytes_cmp x y) ≡ false
turned x y e = ap is_gt (nat_list_cmp_total.antisymm x y) ∙ reversed (bytes_cmp y x) e
  where
    reversed : (o : Ordering) → is_lt o ≡ false → is_gt (ordering_reverse o) ≡ false
    reversed Less e = absurd (true≢false e)
    reversed Equal e = refl
    reversed Greater e = refl

-- x is below y, and z is not
pub below_upto : (x y z : List ℕ) → bytes_cmp x y ≡ Less → is_lt (bytes_cmp z y) ≡ false → bytes_cmp x z ≡ Less
below_upto x y z less le = by_order (bytes_cmp y z) refl
  where
    by_order : (o : Ordering) → bytes_cmp y z ≡ o → bytes_cmp x z ≡ Less
    by_order Less e = nat_list_cmp_total.trans x y z less e
    by_order Equal e = sym (alike_right nat_list_cmp_total y z x e) ∙ less
    by_order Greater e = absurd (true≢false (sym (ap is_lt (nat_list_cmp_total.antisymm z y ∙ ap ordering_reverse e))
        ∙ le))

-- x is not above y, which is below z
upto_below : (x y z : List ℕ) → is_lt (bytes_cmp y x) ≡ false → bytes_cmp y z ≡ Less → bytes_cmp x z ≡ Less
upto_below x y z le less = by_order (bytes_cmp x y) refl
  where
    by_order : (o : Ordering) → bytes_cmp x y ≡ o → bytes_cmp x z ≡ Less
    by_order Less e = nat_list_cmp_total.trans x y z e less
    by_order Equal e = nat_list_cmp_total.congr x y z e ∙ less
    by_order Greater e = absurd (true≢false (sym (ap is_lt (nat_list_cmp_total.antisymm y x ∙ ap ordering_reverse e))
        ∙ le))

-- ---- in order

abbrev pub Sorted : List Place → Type 0
Sorted ps = IsSortedByKey (λ (p : Place). p.0) bytes_cmp ps

abbrev pub InOrder : List Place → Type 0
InOrder ps = IsSorted posting_cmp ps

pub posting_cmp_total : IsTotalOrder posting_cmp
posting_cmp_total = then_total (on_total (λ (p : Place). p.0) nat_list_cmp_total)
    (on_total (λ (p : Place). p.1) nat_cmp_total)

-- postings in order are in the order of their words
pub by_words : (ps : List Place) → InOrder ps → Sorted ps
by_words ps s k d low high = first _ _ (s k d low high)
  where
    first : (o u : Ordering) → is_lt (ordering_then o u) ≡ false → is_lt o ≡ false
    first Less u e = e
    first Equal u e = refl
    first Greater u e = refl

-- no word is below one before it
abbrev pub Rises : List Place → Type 0
Rises ps = (i j : ℕ) (d : Place) → i ≤ j → j < length ps → is_lt (bytes_cmp (get_or ps j d).0 (get_or ps i d).0) ≡ false

pub rises : (ps : List Place) → Sorted ps → Rises ps
rises ps s = sorted_far (λ (x y : Place). is_lt (bytes_cmp x.0 y.0)) (ranks_by nat_list_cmp_total (λ (p : Place). p.0))
    ps s

pub tail_rises : (p : Place) (ps : List Place) → Rises (p ∷ ps) → Rises ps
tail_rises p ps r i j d le lt = r (suc i) (suc j) d (omega arith) (omega arith)

pub rises-drop : (n : ℕ) (ps : List Place) → Rises ps → Rises (drop n ps)
rises-drop zero ps r = r
rises-drop (suc n) [] r = r
rises-drop (suc n) (p ∷ ps) r = rises-drop n ps (tail_rises p ps r)

pub rises_from : (low : End) (ps : List Place) → Rises ps → Rises (from_low low ps)
rises_from low ps r = rises-drop (prefix_len (λ (p : Place). not (above low p.0)) ps) ps r

-- words below a word, and words not above it, come before the others
pub below_first : (word : List ℕ) (ps : List Place) → Rises ps
    → IsPartitionedBy (λ (p : Place). is_gt (bytes_cmp word p.0)) ps
below_first word ps r i j d le lt g =
    let x = (get_or ps i d).0 in
    let y = (get_or ps j d).0 in
    let less : bytes_cmp y word ≡ Less = nat_list_cmp_total.antisymm y word ∙ ap ordering_reverse (greater _ g) in
    ap is_gt (nat_list_cmp_total.antisymm word x ∙ ap ordering_reverse (upto_below x y word (r i j d le lt) less))

pub upto_first : (word : List ℕ) (ps : List Place) → Rises ps
    → IsPartitionedBy (λ (p : Place). not (is_lt (bytes_cmp word p.0))) ps
upto_first word ps r i j d le lt g = by_order (bytes_cmp word (get_or ps i d).0) refl
  where
    by_order : (o : Ordering) → bytes_cmp word (get_or ps i d).0 ≡ o → not (is_lt o) ≡ true
    by_order Less e = absurd
        (true≢false (sym g ∙ ap (λ b. not (is_lt b))
        (below_upto word (get_or ps i d).0 (get_or ps j d).0 e (r i j d le lt))))
    by_order Equal e = refl
    by_order Greater e = refl

-- ---- where a range begins

-- from the place that a search by t ends at, where t is u
pub reached : (t u : Place → Bool) → ((p : Place) → t p ≡ u p) → (ps all back : List Place) (n : ℕ) → ps ≡ all
    → n ≤ length ps → IsPartitionPoint (λ p. t p ≡ true) (λ p. t p ≡ false) ps n → back ≡ drop n ps
    → back ≡ drop (prefix_len u all) all
reached t u same ps all back n is bound point e =
    e ∙ ap (λ m. drop m ps) (prefix_from_point t ps n ([], 0) bound point)
    ∙ (λ i. drop (prefix_len (λ p. same p i) (is i)) (is i))

pub from_word : (word : List ℕ) (ps all back : List Place) (n : ℕ) → ps ≡ all → n ≤ length ps
    → IsPartitionPoint (λ p. is_gt (bytes_cmp word p.0) ≡ true) (λ p. is_gt (bytes_cmp word p.0) ≡ false) ps n
    → back ≡ drop n ps → back ≡ from_low (End.With word) all
from_word word = reached (λ p. is_gt (bytes_cmp word p.0)) (λ p. not (above (End.With word) p.0))
    (λ p. sym (not-not (is_gt (bytes_cmp word p.0))))

pub past_word : (word : List ℕ) (ps all back : List Place) (n : ℕ) → ps ≡ all → n ≤ length ps
    → IsPartitionPoint (λ p. not (is_lt (bytes_cmp word p.0)) ≡ true) (λ p. not (is_lt (bytes_cmp word p.0))
    ≡ false) ps n → back ≡ drop n ps → back ≡ from_low (End.Without word) all
past_word word = reached (λ p. not (is_lt (bytes_cmp word p.0))) (λ p. not (above (End.Without word) p.0)) (λ p. refl)

-- ---- words that begin with a front

-- a word below the front does not
pub not_below : (front w : List ℕ) → is_gt (bytes_cmp front w) ≡ true → begins_with front w ≡ false
not_below [] [] g = absurd (true≢false (sym g))
not_below [] (x ∷ xs) g = absurd (true≢false (sym g))
not_below (f ∷ fs) [] g = refl
not_below (f ∷ fs) (x ∷ xs) g = step (nat_lt f x) (f == x) (bytes_cmp fs xs) (begins_with fs xs) g (not_below fs xs)
  where
    step : (a b : Bool) (o : Ordering) (t : Bool) → is_gt (ordering_then (cond a Less (cond b Equal Greater)) o) ≡ true
        → (is_gt o ≡ true → t ≡ false) → (b && t) ≡ false
    step true b o t g rest = absurd (true≢false (sym g))
    step false true o t g rest = rest g
    step false false o t g rest = refl

-- where a word that is not below the front does not, no later word does
pub no_later : (front w v : List ℕ) → is_gt (bytes_cmp front w) ≡ false → is_lt (bytes_cmp v w) ≡ false
    → begins_with front w ≡ false → begins_with front v ≡ false
no_later [] w v g le e = absurd (true≢false e)
no_later (f ∷ fs) [] v g le e = absurd (true≢false g)
no_later (f ∷ fs) (x ∷ xs) [] g le e = refl
no_later (f ∷ fs) (x ∷ xs) (y ∷ ys) g le e = by_first (f == y) refl (no_later fs xs ys)
  where
    step : (a b : Bool) (o u : Ordering) (t s : Bool) → is_gt (ordering_then (cond a Less (cond b Equal Greater)) o)
        ≡ false → is_lt (ordering_then (cond a Less (cond b Equal Greater)) u) ≡ false → (b && t) ≡ false
        → (is_gt o ≡ false → is_lt u ≡ false → t ≡ false → s ≡ false) → s ≡ false
    step true b o u t s g le e rest = absurd (true≢false le)
    step false true o u t s g le e rest = rest g le e
    step false false o u t s g le e rest = absurd (true≢false g)

    by_first : (b : Bool) → (f == y) ≡ b
        → (is_gt (bytes_cmp fs xs) ≡ false → is_lt (bytes_cmp ys xs) ≡ false → begins_with fs xs ≡ false
        → begins_with fs ys ≡ false) → (b && begins_with fs ys) ≡ false
    by_first false same rest = refl
    by_first true same rest =
        let first : y ≡ f = sym (eqb-true f y same) in
        step (nat_lt f x) (f == x) (bytes_cmp fs xs) (bytes_cmp ys xs) (begins_with fs xs) (begins_with fs ys) g
        (sym (ap (λ z. is_lt (bytes_cmp (z ∷ ys) (x ∷ xs))) first) ∙ le) e rest

-- ---- what the first word of a range settles

abbrev pub first_passes : (Place → Bool) → List Place → Bool
first_passes t [] = false
first_passes t (p ∷ ps) = t p

none_passes : (t : Place → Bool) (ps : List Place) → ((k : ℕ) (d : Place) → k < length ps → t (get_or ps k d) ≡ false)
    → list_any t ps ≡ false
none_passes t [] none = refl
none_passes t (p ∷ ps) none = ap (λ b. b || list_any t ps) (none 0 p (omega arith))
    ∙ none_passes t ps (λ k d lt. none (suc k) d (omega arith))

-- the test fails below the range, and from a word of the range on where it fails at that word
pub first_settles : (low : End) (t : Place → Bool)
    → ((p : Place) → above low p.0 ≡ false → t p ≡ false)
    → ((p q : Place) → above low p.0 ≡ true → is_lt (bytes_cmp q.0 p.0) ≡ false → t p ≡ false → t q ≡ false)
    → (ps : List Place) → Rises ps → list_any t ps ≡ first_passes t (from_low low ps)
first_settles low t outside stops [] r = refl
first_settles low t outside stops (p ∷ ps) r =
    by_place (above low p.0) refl (first_settles low t outside stops ps (tail_rises p ps r))
  where
    by_pass : (b : Bool) → t p ≡ b → above low p.0 ≡ true → (b || list_any t ps) ≡ b
    by_pass true e here = refl
    by_pass false e here = none_passes t ps
        (λ k d lt. stops p (get_or ps k d) here (r 0 (suc k) d (omega arith) (omega arith)) e)

    by_place : (b : Bool) → above low p.0 ≡ b → list_any t ps ≡ first_passes t (from_low low ps)
        → (t p || list_any t ps)
        ≡ first_passes t (drop (cond (not b) (1 + prefix_len (λ (q : Place). not (above low q.0)) ps) 0) (p ∷ ps))
    by_place true e rest = by_pass (t p) refl e
    by_place false e rest =
        ap (λ b. b || list_any t ps) (outside p e) ∙ rest
        ∙ ap (λ m. first_passes t (drop m (p ∷ ps)))
        (sym (one-add (prefix_len (λ (q : Place). not (above low q.0)) ps)))

-- ---- the three tests

-- one word
pub word_settles : (word : List ℕ) (ps : List Place) → Rises ps → list_any (λ (p : Place). bytes_eq p.0 word) ps
    ≡ first_passes (λ (p : Place). bytes_eq p.0 word) (from_low (End.With word) ps)
word_settles word ps r =
    first_settles (End.With word) (λ (p : Place). bytes_eq p.0 word) (λ p e. outside p.0 e)
    (λ p q here le e. stops p.0 q.0 here le e) ps r
  where
    outside : (w : List ℕ) → not (is_gt (bytes_cmp word w)) ≡ false → bytes_eq w word ≡ false
    outside w e = sym (is_eq-slice_cmp w word)
        ∙ ap is_eq (nat_list_cmp_total.antisymm w word ∙ ap ordering_reverse (greater _ (not-false _ e)))

    stops : (w v : List ℕ) → not (is_gt (bytes_cmp word w)) ≡ true → is_lt (bytes_cmp v w) ≡ false
        → bytes_eq w word ≡ false → bytes_eq v word ≡ false
    stops w v here le e = by_order (bytes_cmp word w) refl
      where
        by_order : (o : Ordering) → bytes_cmp word w ≡ o → bytes_eq v word ≡ false
        by_order Less less = sym (is_eq-slice_cmp v word)
            ∙ ap is_eq (nat_list_cmp_total.antisymm v word ∙ ap ordering_reverse (below_upto word w v less le))
        by_order Equal tie = absurd
            (true≢false (sym (sym (is_eq-slice_cmp w word)
            ∙ ap is_eq (nat_list_cmp_total.antisymm w word ∙ ap ordering_reverse tie)) ∙ e))
        by_order Greater more = absurd (true≢false (sym (ap (λ o. not (is_gt o)) (sym more) ∙ here)))

-- words that begin with a front
pub front_settles : (front : List ℕ) (ps : List Place) → Rises ps → list_any (λ (p : Place). begins_with front p.0) ps
    ≡ first_passes (λ (p : Place). begins_with front p.0) (from_low (End.With front) ps)
front_settles front ps r =
    first_settles (End.With front) (λ (p : Place). begins_with front p.0) (λ p e. not_below front p.0 (not-false _ e))
    (λ p q here le e. no_later front p.0 q.0 (not-true _ here) le e) ps r

-- above the high end, and so is what follows
pub stays_above : (high : End) (w v : List ℕ) → is_lt (bytes_cmp v w) ≡ false → below high w ≡ false
    → below high v ≡ false
stays_above End.Free w v le e = absurd (true≢false e)
stays_above (End.With h) w v le e =
    let less : bytes_cmp h w ≡ Less = nat_list_cmp_total.antisymm h w
    ∙ ap ordering_reverse (greater _ (not-false _ e)) in
    ap (λ o. not (is_gt o)) (nat_list_cmp_total.antisymm v h ∙ ap ordering_reverse (below_upto h w v less le))
stays_above (End.Without h) w v le e = by_order (bytes_cmp v h) refl
  where
    by_order : (o : Ordering) → bytes_cmp v h ≡ o → is_lt o ≡ false
    by_order Less less = absurd (true≢false (sym (ap is_lt (upto_below w v h le less)) ∙ e))
    by_order Equal tie = refl
    by_order Greater more = refl

-- words between two ends
pub range_settles : (low high : End) (ps : List Place) → Rises ps
    → list_any (λ (p : Place). above low p.0 && below high p.0) ps
    ≡ first_passes (λ (p : Place). above low p.0 && below high p.0) (from_low low ps)
range_settles low high ps r =
    first_settles low (λ (p : Place). above low p.0 && below high p.0) (λ p e. ap (λ b. b && below high p.0) e)
    (λ p q here le e. ap (λ b. above low q.0
    && b) (stays_above high p.0 q.0 le (sym (ap (λ b. b && below high p.0) here) ∙ e)) ∙ and-false (above low q.0)) ps r

-- ---- a first word that was read

pub first_read : (t : Place → Bool) (ps all : List Place) (p : Place) → ps ≡ all → 0 < length ps → p ≡ get_or ps 0 p
    → t p ≡ first_passes t all
first_read t [] all p same lt is = absurd (omega arith)
first_read t (x ∷ ps) all p same lt is = ap t is ∙ ap (first_passes t) same

pub none_read : (t : Place → Bool) (ps all : List Place) → ps ≡ all → length ps ≤ 0 → false ≡ first_passes t all
none_read t [] all same le = ap (first_passes t) same
none_read t (x ∷ ps) all same le = absurd (omega arith)

-- the first word of a range is in it
pub first_above : (low : End) (ps all : List Place) (p : Place) → ps ≡ from_low low all → 0 < length ps
    → p ≡ get_or ps 0 p → above low p.0 ≡ true
first_above low ps all p same lt is =
    let outside : Place → Bool = λ q. not (above low q.0) in
    let n = prefix_len outside all in
    let gone : length ps ≡ length all - n = ap length same ∙ length-drop n all in
    let there : p ≡ get_or all n p = is ∙ ap (λ xs. get_or xs 0 p) same ∙ get_or-drop n all 0 p
    ∙ ap (λ i. get_or all i p) (add-zero n) in
    not-false _ (ap outside there ∙ prefix_len_stops outside all p (omega arith))

-- ---- the postings of one word

pub tells : (word w : List ℕ) → bytes_eq w word ≡ is_eq (ordering_reverse (bytes_cmp word w))
tells word w = sym (is_eq-slice_cmp w word) ∙ ap is_eq (nat_list_cmp_total.antisymm w word)

pub none_kept : (t : Place → Bool) (ps : List Place)
    → ((k : ℕ) (d : Place) → k < length ps → t (get_or ps k d) ≡ false) → filter t ps ≡ []
none_kept t [] none = refl
none_kept t (p ∷ ps) none = ap (λ b. cond b (p ∷ filter t ps) (filter t ps)) (none 0 p (omega arith))
    ∙ none_kept t ps (λ k d lt. none (suc k) d (omega arith))
