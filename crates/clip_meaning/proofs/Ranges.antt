-- The postings of a range of words: a run, from where the range begins up to the first word that is past it.
use Rattle.std.proofs.Common.{◌≡◌, ℕ, suc, ◌+◌, ◌<◌, ◌≤◌, Bool, true, false, not, cond, ◌&&◌, List, [], ◌∷◌, length}
use Rattle.std.proofs.Common.{take, drop, filter, map, get_or, is_eq, is_gt, is_lt, Ordering, Less, Equal, Greater}
use Rattle.std.proofs.Common.{refl, sym, ap, subst, ◌∙◌, arith, true≢false, one-add}
use Rattle.std.specs.List.{prefix_len}
use Rattle.std.specs.List.Sorted.{IsPartitionedBy, IsPartitionPoint}
use Rattle.std.specs.Cmp.Lexicographic.{nat_list_cmp_total}
use Rattle.std.specs.Ordering.{ordering_reverse}
use Rattle.std.specs.Str.{bytes_eq}
use Rattle.std.proofs.lemmas.Bool.{not-true, not-false}
use Rattle.std.proofs.lemmas.Cmp.{upto}
use Rattle.clip_words.specs.Order.{bytes_cmp}
use Rattle.clip_grammar.specs.Tokens.{End}
use Rattle.clip_meaning.specs.declared.index.Occurrence.{Occurrence}
use Rattle.clip_meaning.specs.Meaning.{above, below, begins_with, is_between}
use Rattle.clip_meaning.specs.Steps.Occurrences.{posting_at}
use Rattle.clip_meaning.specs.Steps.Searches.{from_low}
use Rattle.clip_meaning.proofs.Fields.{prefix_from_point}
use Rattle.clip_meaning.proofs.Occurrences.{ended, bound_told}
use Rattle.clip_meaning.proofs.WordOrder.{Place, Rises, tail_rises, turned, below_upto, not_below, no_later}
use Rattle.clip_meaning.proofs.WordOrder.{none_kept, rises_from, stays_above, tells}

-- ---- above the low end

less_from : (o : Ordering) → is_lt o ≡ true → o ≡ Less
less_from Less e = refl
less_from Equal e = absurd (true≢false (sym e))
less_from Greater e = absurd (true≢false (sym e))

-- what is not below a word above the low end is above it
above_later : (low : End) (w v : List ℕ) → above low w ≡ true → is_lt (bytes_cmp v w) ≡ false → above low v ≡ true
above_later End.Free w v here le = refl
above_later (End.With low) w v here le = ap not (upto nat_list_cmp_total low w v (not-true _ here) (turned w v le))
above_later (End.Without low) w v here le = ap is_lt (below_upto low w v (less_from _ here) le)

abbrev AllAbove : End → List Place → Type 0
AllAbove low ps = (k : ℕ) (d : Place) → k < length ps → above low (get_or ps k d).0 ≡ true

from_above : (low : End) (p : Place) (ps : List Place) → Rises (p ∷ ps) → above low p.0 ≡ true → AllAbove low (p ∷ ps)
from_above low p ps r here k d lt = above_later low p.0 (get_or (p ∷ ps) k d).0 here (r 0 k d (omega arith) lt)

range_above : (low : End) (ps : List Place) → Rises ps → AllAbove low (from_low low ps)
range_above low [] r = λ k d lt. absurd (omega arith)
range_above low (p ∷ ps) r = by_place (above low p.0) refl (range_above low ps (tail_rises p ps r))
  where
    by_place : (b : Bool) → above low p.0 ≡ b → AllAbove low (from_low low ps)
        → AllAbove low (drop (cond (not b) (1 + prefix_len (λ (q : Place). not (above low q.0)) ps) 0) (p ∷ ps))
    by_place true e rest = from_above low p ps r e
    by_place false e rest = subst (λ m. AllAbove low (drop m (p ∷ ps)))
        (sym (one-add (prefix_len (λ (q : Place). not (above low q.0)) ps))) rest

-- ---- runs

-- The test t fails below the low end, and from there on it is u, which fails at each word after one where it fails.
pub record IsRun (low : End) (t u : Place → Bool) : Type 0 where
  pub outside : (p : Place) → above low p.0 ≡ false → t p ≡ false
  pub inside : (p : Place) → above low p.0 ≡ true → t p ≡ u p
  pub stops : (p q : Place) → above low p.0 ≡ true → is_lt (bytes_cmp q.0 p.0) ≡ false → u p ≡ false → u q ≡ false

abbrev Front : (Place → Bool) → List Place → List Place
Front u ps = take (prefix_len u ps) ps

-- of words that are all above the low end
front_kept : (low : End) (t u : Place → Bool) → IsRun low t u → (ps : List Place) → Rises ps → AllAbove low ps
    → Front u ps ≡ filter t ps
front_kept low t u run [] r over = refl
front_kept low t u run (p ∷ ps) r over =
    by_test (u p) refl (front_kept low t u run ps (tail_rises p ps r) (λ k d lt. over (suc k) d (omega arith)))
  where
    here : above low p.0 ≡ true
    here = over 0 p (omega arith)

    by_test : (b : Bool) → u p ≡ b → Front u ps ≡ filter t ps → take (cond b (1 + prefix_len u ps) 0) (p ∷ ps)
        ≡ cond (t p) (p ∷ filter t ps) (filter t ps)
    by_test true e rest =
        ap (λ m. take m (p ∷ ps)) (one-add (prefix_len u ps)) ∙ ap (λ qs. p ∷ qs) rest
        ∙ sym (ap (λ b. cond b (p ∷ filter t ps) (filter t ps)) (run.inside p here ∙ e))
    by_test false e rest =
        sym (ap (λ b. cond b (p ∷ filter t ps) (filter t ps)) (run.inside p here ∙ e)
        ∙ none_kept t ps (λ k d lt. run.inside (get_or ps k d) (over (suc k) d (omega arith))
        ∙ run.stops p (get_or ps k d) here (r 0 (suc k) d (omega arith) (omega arith)) e))

run_kept : (low : End) (t u : Place → Bool) → IsRun low t u → (ps : List Place) → Rises ps
    → Front u (from_low low ps) ≡ filter t ps
run_kept low t u run [] r = refl
run_kept low t u run (p ∷ ps) r = by_place (above low p.0) refl (run_kept low t u run ps (tail_rises p ps r))
  where
    by_place : (b : Bool) → above low p.0 ≡ b → Front u (from_low low ps) ≡ filter t ps
        → Front u (drop (cond (not b) (1 + prefix_len (λ (q : Place). not (above low q.0)) ps) 0) (p ∷ ps))
        ≡ cond (t p) (p ∷ filter t ps) (filter t ps)
    by_place true e rest = front_kept low t u run (p ∷ ps) r (from_above low p ps r e)
    by_place false e rest =
        ap (λ m. Front u (drop m (p ∷ ps))) (one-add (prefix_len (λ (q : Place). not (above low q.0)) ps))
        ∙ rest ∙ sym (ap (λ b. cond b (p ∷ filter t ps) (filter t ps)) (run.outside p e))

-- words of the run come before the others
pub run_first : (low : End) (t u : Place → Bool) → IsRun low t u → (ps xs : List Place) → Rises ps → Rises xs
    → xs ≡ from_low low ps → IsPartitionedBy u xs
run_first low t u run ps xs r part same i j d le lt g = by_test (u (get_or xs i d)) refl
  where
    over : AllAbove low xs
    over = subst (AllAbove low) (sym same) (range_above low ps r)

    by_test : (b : Bool) → u (get_or xs i d) ≡ b → u (get_or xs i d) ≡ true
    by_test true e = e
    by_test false e = absurd
        (true≢false (sym g ∙ run.stops (get_or xs i d) (get_or xs j d) (over i d (omega arith)) (part i j d le lt) e))

-- the front of a range up to where a second search ends
pub run_read : (low : End) (t u : Place → Bool) → IsRun low t u → (ps xs front : List Place) (n : ℕ) → Rises ps
    → xs ≡ from_low low ps → n ≤ length xs → IsPartitionPoint (λ p. u p ≡ true) (λ p. u p ≡ false) xs n
    → front ≡ take n xs → front ≡ filter t ps
run_read low t u run ps xs front n r same bound point e =
    e ∙ ap (λ m. take m xs) (prefix_from_point u xs n ([], 0) bound point) ∙ ap (Front u) same
    ∙ run_kept low t u run ps r

-- the same of words that a search told apart where they occur
pub run_found : (low : End) (t u : Place → Bool) → IsRun low t u → (words : List (List ℕ)) (os : List Occurrence)
    (ps xs front : List Place) (n : ℕ) → Rises ps → xs ≡ from_low low ps → map (posting_at words) os ≡ xs
    → n ≤ length os
    → (IsPartitionedBy (λ o. u (posting_at words o)) os
    → IsPartitionPoint (λ o. u (posting_at words o) ≡ true) (λ o. u (posting_at words o) ≡ false) os n)
    → front ≡ take n xs → front ≡ filter t ps
run_found low t u run words os ps xs front n r same told bound point e =
    let part : Rises xs = subst Rises (sym same) (rises_from low ps r) in
    run_read low t u run ps xs front n r same (bound_told words os xs n told bound)
    (ended u words os xs n told (run_first low t u run ps xs r part same) bound point) e

-- ---- the three tests

unequal_past : (o : Ordering) → not (is_gt o) ≡ false → is_eq (ordering_reverse o) ≡ false
unequal_past Less e = absurd (true≢false e)
unequal_past Equal e = absurd (true≢false e)
unequal_past Greater e = refl

equal_upto : (o : Ordering) → not (is_gt o) ≡ true → is_eq (ordering_reverse o) ≡ not (is_lt o)
equal_upto Less e = refl
equal_upto Equal e = refl
equal_upto Greater e = absurd (true≢false (sym e))

pub word_run : (word : List ℕ) → IsRun (End.With word) (λ p. bytes_eq p.0 word) (λ p. not (is_lt (bytes_cmp word p.0)))
word_run word = record {
  outside = λ p e. tells word p.0 ∙ unequal_past (bytes_cmp word p.0) e;
  inside = λ p e. tells word p.0 ∙ equal_upto (bytes_cmp word p.0) e;
  stops = λ p q here le e. ap (λ o. not (is_lt o)) (below_upto word p.0 q.0 (less_from _ (not-false _ e)) le);
}

pub front_run : (front : List ℕ) → IsRun (End.With front) (λ p. begins_with front p.0) (λ p. begins_with front p.0)
front_run front = record {
  outside = λ p e. not_below front p.0 (not-false _ e);
  inside = λ p e. refl;
  stops = λ p q here le e. no_later front p.0 q.0 (not-true _ here) le e;
}

pub range_run : (low high : End) → IsRun low (λ p. is_between low high p.0) (λ p. below high p.0)
range_run low high = record {
  outside = λ p e. ap (λ b. b && below high p.0) e;
  inside = λ p e. ap (λ b. b && below high p.0) e;
  stops = λ p q here le e. stays_above high p.0 q.0 le e;
}
