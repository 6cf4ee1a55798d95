-- A piece's entries, xs the map that they are.
use Rattle.std.proofs.Common.{◌≡◌, ℕ, ◌-◌, ◌<◌, ◌≤◌, ◌/◌, Bool, true, false, cond, not, T, List, [], ◌∷◌, ◌++◌, length}
use Rattle.std.proofs.Common.{map, get_or, set, Some, None, is_some, is_eq, is_gt, insert, remove, refl, sym, ap, subst}
use Rattle.std.proofs.Common.{◌∙◌, arith}
use Rattle.std.specs.Prelude.{Result, Ok, Err, IfOk, IfErr}
use Rattle.std.specs.Arc.{arc_value}
use Rattle.std.specs.declared.sync.Arc.{Arc}
use Rattle.std.specs.declared.alloc.Global.{Global}
use Rattle.std.specs.List.{list_all, AllZip}
use Rattle.std.specs.List.Sorted.{IsBinarySearchResult, IsSearchInRange}
use Rattle.std.specs.Ordering.{eq_by_cmp}
use Rattle.std.specs.Cmp.Lexicographic.{nat_list_cmp_total}
use Rattle.std.proofs.lemmas.Cmp.{alike_right, eq_by_cmp_equiv}
use Rattle.std.proofs.lemmas.List.{length-map, get_or-map, map-append}
use Rattle.std.proofs.lemmas.List.Sums.{prefix_len-le-length}
use Rattle.std.specs.FinMap as finite
use Rattle.std.specs.FinMap.{same_map, same_entries_map, entries_sorted, entries-from_sorted, entries-insert}
use Rattle.std.specs.FinMap.{get-entries, get-from_sorted, get-remove, len-entries, empty_of_len, find, put, is_sorted}
use Rattle.std.specs.FinMap.{IsAntisymmetric, slice_cmp-IsAntisymmetric, nat_cmp-IsAntisymmetric}
use Rattle.std.specs.FinMap.Entries.{find-where_key, is_sorted-where_key}
use Rattle.clip_words.specs.Order.{bytes_cmp}
use Rattle.clip_grammar.proofs.Orderings.{equal}
use Rattle.clip_model.specs.History.{Registered, Registry}
use Rattle.clip_registry.specs.Steps.Pieces.{AreHalves, ends_below, keyed, rank}
use Rattle.clip_standing.proofs.Clones.{map_clones}
use Rattle.clip_registry.proofs.Ranking.{all_lower_by_last, count, found, found_within, free_rank, none_from, others}
use Rattle.clip_registry.proofs.Ranking.{put_between, put_over, rising, sorted_back, sorted_front, taken_out}
use Rattle.clip_registry.proofs.Ranking.{tied_found, tied_rank}

-- an entry under its id, and the entries of a piece
abbrev pub Pair : Type 0
Pair = List ℕ × Registered

abbrev pub Items : Type 0
Items = List (Arc Registered Global)

pub bytes_exact : IsAntisymmetric bytes_cmp
bytes_exact = slice_cmp-IsAntisymmetric nat_cmp-IsAntisymmetric

-- a list in order is the entries of one map
pub made : (es : List Pair) (m : Registry) → es ≡ finite.entries m
    → T (is_sorted bytes_cmp es) × (finite.from_sorted es ≡ m)
made es m e =
    let sorted : T (is_sorted bytes_cmp es) = subst (λ xs. T (is_sorted bytes_cmp xs)) (sym e) (entries_sorted m) in
    (sorted, same_entries_map _ _ (entries-from_sorted bytes_cmp es sorted ∙ e))

empty_list : {A : Type 0} (xs : List A) → length xs ≡ 0 → xs ≡ []
empty_list [] e = refl
empty_list (x ∷ xs) e = absurd (omega arith)

turned_round : {A : Type 0} (b : Bool) (x y : A) → cond (not b) x y ≡ cond b y x
turned_round true x y = refl
turned_round false x y = refl

-- what `remove` leaves
pub entries_remove : (m : Registry) (q : List ℕ) → finite.entries (finite.remove m q)
    ≡ others bytes_cmp nat_list_cmp_total q (finite.entries m)
entries_remove m q =
    let left = others bytes_cmp nat_list_cmp_total q (finite.entries m) in
    let sorted : T (is_sorted bytes_cmp left) =
    is_sorted-where_key bytes_cmp (λ k. not (eq_by_cmp bytes_cmp q k)) (finite.entries m) (entries_sorted m) in
    let same : finite.from_sorted left ≡ finite.remove m q = same_map nat_list_cmp_total bytes_exact _ _ (λ k.
    get-from_sorted bytes_cmp left k sorted
    ∙ find-where_key bytes_cmp (λ x. not (eq_by_cmp bytes_cmp q x)) k
    (λ x t. ap (λ r. not (is_eq r)) (sym (alike_right nat_list_cmp_total k x q t))) (finite.entries m)
    ∙ turned_round (eq_by_cmp bytes_cmp q k) _ _
    ∙ ap (λ b. cond b None (find bytes_cmp k (finite.entries m))) ((eq_by_cmp_equiv nat_list_cmp_total).symm q k)
    ∙ ap (cond (eq_by_cmp bytes_cmp k q) None) (sym (get-entries m k))
    ∙ sym (get-remove nat_list_cmp_total m q k)) in
    sym (ap finite.entries same) ∙ entries-from_sorted bytes_cmp left sorted

module _ (xs : Items) (m : Registry) (sorted : T (is_sorted bytes_cmp (map keyed xs)))
    (is : finite.from_sorted (map keyed xs) ≡ m) where
  pub kept : map keyed xs ≡ finite.entries m
  kept = sym (entries-from_sorted bytes_cmp (map keyed xs) sorted) ∙ ap finite.entries is

  pub piece_len : length xs ≡ finite.len m
  piece_len = sym (length-map xs keyed) ∙ ap length kept ∙ sym (len-entries m)

  pub is_there : (q : List ℕ) → finite.contains_key m q ≡ is_some (find bytes_cmp q (map keyed xs))
  is_there q = ap is_some (get-entries m q ∙ ap (find bytes_cmp q) (sym kept))

  pub is_rank : (q : List ℕ) → rank q m ≡ count bytes_cmp nat_list_cmp_total q (map keyed xs)
  is_rank q = ap (count bytes_cmp nat_list_cmp_total q) (sym kept)

  pub rank_within : (q : List ℕ) → rank q m ≤ length xs
  rank_within q = rw (is_rank q, ← length-map xs keyed)
      (prefix_len-le-length (λ (e : Pair). is_gt (bytes_cmp q e.0)) (map keyed xs))

  -- each id is below this one where the last is
  pub ends_with : (q : List ℕ) (d : Arc Registered Global) → 0 < length xs
      → ends_below q m ≡ is_gt (bytes_cmp q (get_or xs (length xs - 1) d).value.standing.id)
  ends_with q d some =
      let inside : length xs - 1 < length xs = omega arith in
      ap (λ es. list_all (λ (e : Pair). is_gt (bytes_cmp q e.0)) es) (sym kept)
      ∙ all_lower_by_last bytes_cmp nat_list_cmp_total q (map keyed xs) (keyed d) sorted (rw (length-map xs keyed) some)
      ∙ ap (λ (e : Pair). is_gt (bytes_cmp q e.0))
      (ap (λ n. get_or (map keyed xs) (n - 1) (keyed d)) (length-map xs keyed)
      ∙ get_or-map keyed xs (length xs - 1) d (keyed d) inside)

  pub ends_empty : (q : List ℕ) → length xs ≡ 0 → ends_below q m ≡ true
  ends_empty q none = ap (λ es. list_all (λ (e : Pair). is_gt (bytes_cmp q e.0)) es) (sym kept
      ∙ ap (map keyed) (empty_list xs none))

-- what a binary search answers
module _ (q : List ℕ) where
  pub searched_found : (xs : Items) (m : Registry) (r : Result ℕ ℕ) → T (is_sorted bytes_cmp (map keyed xs))
      → finite.from_sorted (map keyed xs) ≡ m → IsSearchInRange r (length xs)
      → IsBinarySearchResult (λ a. bytes_cmp a.value.standing.id q) xs r
      → IfOk r (λ n. (n ≡ rank q m) × (finite.contains_key m q ≡ true))
  searched_found xs m (Err i) sorted is bound at = tt
  searched_found [] m (Ok i) sorted is bound at = absurd (omega arith)
  searched_found (a ∷ xs) m (Ok i) sorted is bound at = (
    tied_rank bytes_cmp nat_list_cmp_total keyed q (a ∷ xs) i a sorted bound (at a)
        ∙ sym (is_rank (a ∷ xs) m sorted is q),
    is_there (a ∷ xs) m sorted is q ∙ tied_found bytes_cmp nat_list_cmp_total keyed q (a ∷ xs) i a bound (at a),
  )

  pub searched_missing : (xs : Items) (m : Registry) (r : Result ℕ ℕ) → T (is_sorted bytes_cmp (map keyed xs))
      → finite.from_sorted (map keyed xs) ≡ m → IsSearchInRange r (length xs)
      → IsBinarySearchResult (λ a. bytes_cmp a.value.standing.id q) xs r
      → IfErr r (λ n. (n ≡ rank q m) × (finite.contains_key m q ≡ false))
  searched_missing xs m (Ok i) sorted is bound at = tt
  searched_missing xs m (Err i) sorted is bound at =
      let around = at (rising bytes_cmp nat_list_cmp_total keyed q xs sorted) in
      let free = free_rank bytes_cmp nat_list_cmp_total keyed q xs i bound around.0 around.1 in
      (free.0 ∙ sym (is_rank xs m sorted is q), is_there xs m sorted is q ∙ free.1)

-- what is found, put and taken out at the place of an id
module _ (xs : Items) (m : Registry) (sorted : T (is_sorted bytes_cmp (map keyed xs)))
    (is : finite.from_sorted (map keyed xs) ≡ m) (n : ℕ) where
  there : (q : List ℕ) → finite.contains_key m q ≡ true → is_some (find bytes_cmp q (map keyed xs)) ≡ true
  there q some = sym (is_there xs m sorted is q) ∙ some

  at : (q : List ℕ) → n ≡ rank q m → n ≡ count bytes_cmp nat_list_cmp_total q (map keyed xs)
  at q e = e ∙ is_rank xs m sorted is q

  pub within : (q : List ℕ) → n ≡ rank q m → finite.contains_key m q ≡ true → n < length xs
  within q e some = found_within bytes_cmp nat_list_cmp_total keyed q xs n sorted (there q some) (at q e)

  pub got : (q : List ℕ) (d : Arc Registered Global) → n ≡ rank q m → finite.contains_key m q ≡ true
      → Some (get_or xs n d).value ≡ finite.get m q
  got q d e some = sym (found bytes_cmp nat_list_cmp_total keyed q xs n d sorted (there q some) (at q e)).1
      ∙ ap (find bytes_cmp q) (kept xs m sorted is) ∙ sym (get-entries m q)

  pub replaced : (a : Arc Registered Global) → n ≡ rank a.value.standing.id m
      → finite.contains_key m a.value.standing.id ≡ true
      → T (is_sorted bytes_cmp (map keyed (set xs n a)))
      × (finite.from_sorted (map keyed (set xs n a)) ≡ finite.insert m a.value.standing.id a.value)
  replaced a e some =
      let q = a.value.standing.id in
      made _ _ (put_over bytes_cmp nat_list_cmp_total keyed bytes_exact a xs n sorted (there q some) (at q e)
      ∙ ap (put bytes_cmp q a.value) (kept xs m sorted is) ∙ sym (entries-insert nat_list_cmp_total m q a.value))

  pub inserted : (a : Arc Registered Global) → n ≡ rank a.value.standing.id m
      → finite.contains_key m a.value.standing.id ≡ false
      → T (is_sorted bytes_cmp (map keyed (insert xs n a)))
      × (finite.from_sorted (map keyed (insert xs n a)) ≡ finite.insert m a.value.standing.id a.value)
  inserted a e none =
      let q = a.value.standing.id in
      made _ _ (put_between bytes_cmp nat_list_cmp_total keyed a xs n (sym (is_there xs m sorted is q) ∙ none) (at q e)
      ∙ ap (put bytes_cmp q a.value) (kept xs m sorted is) ∙ sym (entries-insert nat_list_cmp_total m q a.value))

  pub removed : (q : List ℕ) → n ≡ rank q m → finite.contains_key m q ≡ true
      → T (is_sorted bytes_cmp (map keyed (remove xs n)))
      × (finite.from_sorted (map keyed (remove xs n)) ≡ finite.remove m q)
  removed q e some =
      made _ _ (taken_out bytes_cmp nat_list_cmp_total keyed q xs n sorted (there q some) (at q e)
      ∙ ap (others bytes_cmp nat_list_cmp_total q) (kept xs m sorted is) ∙ sym (entries_remove m q))

-- an id that no entry has
pub got_none : (m : Registry) (q : List ℕ) → finite.contains_key m q ≡ false → None ≡ finite.get m q
got_none m q none = sym (none_from _ none)

pub removed_none : (m : Registry) (q : List ℕ) → finite.contains_key m q ≡ false → m ≡ finite.remove m q
removed_none m q none = same_map nat_list_cmp_total bytes_exact _ _ (λ k.
    elim (eq_by_cmp bytes_cmp k q) as (λ b. eq_by_cmp bytes_cmp k q ≡ b
    → finite.get m k ≡ cond b None (finite.get m k)) [
      | true ↦ λ e. ap (finite.get m) (bytes_exact k q (equal _ e)) ∙ sym (got_none m q none)
      | false ↦ λ e. refl
    ] refl
    ∙ sym (get-remove nat_list_cmp_total m q k))

entries_empty : finite.entries {K = List ℕ} {X = Registered} {R = bytes_cmp} finite.empty ≡ []
entries_empty = sym (ap finite.entries (empty_of_len (finite.from_sorted []) (len-entries _
    ∙ ap length (entries-from_sorted bytes_cmp [] tt)))) ∙ entries-from_sorted bytes_cmp [] tt

pub one_entry : (xs : Items) (a : Arc Registered Global) → xs ≡ a ∷ [] → finite.from_sorted (map keyed xs)
    ≡ finite.insert (finite.empty {K = List ℕ} {X = Registered} {R = bytes_cmp}) a.value.standing.id a.value
one_entry xs a e =
    (made (map keyed xs) _ (ap (map keyed) e ∙ ap (put bytes_cmp a.value.standing.id a.value) (sym entries_empty)
    ∙ sym (entries-insert nat_list_cmp_total finite.empty a.value.standing.id a.value))).1

-- clones are entries under the same ids
pub keyed_clones : (xs ys : Items) → AllZip (λ x y. arc_value y ≡ arc_value x) xs ys → map keyed ys ≡ map keyed xs
keyed_clones xs ys all =
    map_clones (λ x y. arc_value y ≡ arc_value x) keyed (λ x y e. ap (λ (r : Registered). (r.standing.id, r)) e) xs ys
    all

pub cut_in_order : (xs lower upper : Items) → T (is_sorted bytes_cmp (map keyed xs)) → xs ≡ lower ++ upper
    → T (is_sorted bytes_cmp (map keyed lower)) × T (is_sorted bytes_cmp (map keyed upper))
cut_in_order xs lower upper sorted e =
    let whole : T (is_sorted bytes_cmp (map keyed lower ++ map keyed upper)) =
    subst (λ es. T (is_sorted bytes_cmp es)) (ap (map keyed) e ∙ map-append keyed lower upper) sorted in (
      sorted_front bytes_cmp nat_list_cmp_total (map keyed lower) (map keyed upper) whole,
      sorted_back bytes_cmp nat_list_cmp_total (map keyed lower) (map keyed upper) whole,
    )

pub halved : (xs lower upper : Items) (m a b : Registry) → T (is_sorted bytes_cmp (map keyed xs))
    → finite.from_sorted (map keyed xs) ≡ m → xs ≡ lower ++ upper → length lower ≡ length xs / 2
    → finite.entries a ≡ map keyed lower → finite.entries b ≡ map keyed upper → AreHalves m a b
halved xs lower upper m a b sorted is e half ea eb = record {
  entries = (λ i. ea i ++ eb i) ∙ sym (map-append keyed lower upper) ∙ sym (ap (map keyed) e) ∙ kept xs m sorted is;
  half = len-entries a ∙ ap length ea ∙ length-map lower keyed ∙ half ∙ ap (λ n. n / 2) (piece_len xs m sorted is);
}
