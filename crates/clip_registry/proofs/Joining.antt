-- Lists of pieces whose ids rise through all of them: what is found, put and taken out in the piece for an id is so in
-- all.
use Rattle.std.proofs.Common.{◌≡◌, ℕ, zero, suc, ◌+◌, ◌-◌, ◌<◌, ◌≤◌, ◌/◌, Bool, true, false, cond, not, ◌&&◌, T, List}
use Rattle.std.proofs.Common.{[], ◌∷◌, ◌++◌, length, map, get_or, set, Some, None, Option, is_some, is_eq, is_gt}
use Rattle.std.proofs.Common.{Ordering, Less, Equal, Greater, insert, remove, refl, sym, ap, subst, ◌∙◌, arith}
use Rattle.std.proofs.Common.{true≢false, append-nil, append_assoc, length-append, add-one, lit<, lit≤, inl, inr}
use Rattle.std.proofs.lemmas.List.{get_or-map, length-map, map-append, map-set, set-get_or}
use Rattle.std.specs.Arc.{arc_value}
use Rattle.std.specs.Prelude.{Result, Ok, Err, OnErr}
use Rattle.std.specs.Option.{option_map}
use Rattle.std.specs.declared.sync.Arc.{Arc}
use Rattle.std.specs.declared.alloc.Global.{Global}
use Rattle.std.specs.List.{AllWithin}
use Rattle.std.specs.List.Sorted.{IsPartitionedBy}
use Rattle.std.specs.Cmp.{IsTotalOrder}
use Rattle.std.specs.Cmp.Lexicographic.{nat_list_cmp_total}
use Rattle.std.specs.FinMap as finite
use Rattle.std.specs.FinMap.{entries-from_sorted, entries-insert, get-entries, get-from_sorted, get-empty, len-entries}
use Rattle.std.specs.FinMap.{len-insert, len-remove, len-empty, empty_of_len, find, put, is_sorted}
use Rattle.std.specs.FinMap.Entries.{below_all, by_order}
use Rattle.clip_words.specs.Order.{bytes_cmp}
use Rattle.clip_grammar.proofs.Booleans.{first, second}
use Rattle.clip_grammar.proofs.Orderings.{greater, less}
use Rattle.clip_model.specs.History.{Registered, Registry}
use Rattle.clip_registry.specs.Steps.Pieces.{AreFilled, AreInOrder, AreHalves, HasRoomFor, IsPlaceFor, ends_below}
use Rattle.clip_registry.specs.Steps.Pieces.{joined, map_of}
use Rattle.clip_registry.specs.Steps.Roster.{insert_one}
use Rattle.clip_registry.specs.declared.by_id.piece.TheConstants.{MOST_IN_PIECE}
use Rattle.clip_registry.proofs.Ranking.{all_lower, all_others, below_front, below_less, below_tied, left, none_below}
use Rattle.clip_registry.proofs.Ranking.{others, right, sorted_back, turned}
use Rattle.clip_registry.proofs.Piecing.{Pair, entries_remove, made, removed_none}

-- ---- two lists, one after the other

module _ {K X : Type 0} (R : K → K → Ordering) (o : IsTotalOrder R) where
  put_after : (q : K) (v : X) (xs ys : List (K × X)) → all_lower R o q xs ≡ true
      → put R q v (xs ++ ys) ≡ xs ++ put R q v ys
  put_after q v [] ys h = refl
  put_after q v (e ∷ xs) ys h =
      ap (λ r. by_order r ((q, v) ∷ e ∷ (xs ++ ys)) ((e.0, v) ∷ (xs ++ ys)) (e ∷ put R q v (xs ++ ys)))
      (greater _ (left _ _ h)) ∙ ap (λ zs. e ∷ zs) (put_after q v xs ys (right _ _ h))

  put_before : (q : K) (v : X) (xs ys : List (K × X)) → all_lower R o q xs ≡ false
      → put R q v (xs ++ ys) ≡ put R q v xs ++ ys
  put_before q v [] ys h = absurd (true≢false h)
  put_before q v (e ∷ xs) ys h =
      elim (R q e.0) as (λ r. (is_gt r && all_lower R o q xs) ≡ false
      → by_order r ((q, v) ∷ e ∷ (xs ++ ys)) ((e.0, v) ∷ (xs ++ ys)) (e ∷ put R q v (xs ++ ys))
      ≡ by_order r ((q, v) ∷ e ∷ xs) ((e.0, v) ∷ xs) (e ∷ put R q v xs) ++ ys) [
        | Less ↦ λ _. refl
        | Equal ↦ λ _. refl
        | Greater ↦ λ h. ap (λ zs. e ∷ zs) (put_before q v xs ys h)
      ] h

  find_after : (q : K) (xs ys : List (K × X)) → all_lower R o q xs ≡ true → find R q (xs ++ ys) ≡ find R q ys
  find_after q [] ys h = refl
  find_after q (e ∷ xs) ys h = ap (λ r. cond (is_eq r) (Some e.1) (find R q (xs ++ ys))) (greater _ (left _ _ h))
      ∙ find_after q xs ys (right _ _ h)

  find_before : (q : K) (xs ys : List (K × X)) → all_lower R o q xs ≡ false → T (is_sorted R (xs ++ ys))
      → find R q (xs ++ ys) ≡ find R q xs
  find_before q [] ys h sorted = absurd (true≢false h)
  find_before q (e ∷ xs) ys h sorted =
      elim (R q e.0) as (λ r. R q e.0 ≡ r → (is_gt r && all_lower R o q xs) ≡ false
      → cond (is_eq r) (Some e.1) (find R q (xs ++ ys)) ≡ cond (is_eq r) (Some e.1) (find R q xs)) [
        | Less ↦ λ r _.
            let under : T (below_all R q (xs ++ ys)) = below_less R o q e.0 (xs ++ ys) r (first _ _ sorted) in
            none_below R o q (xs ++ ys) under ∙ sym (none_below R o q xs (below_front R o q xs ys under))
        | Equal ↦ λ r _. refl
        | Greater ↦ λ r h. find_before q xs ys h (second _ _ sorted)
      ] refl h

  others_after : (q : K) (xs ys : List (K × X)) → all_lower R o q xs ≡ true
      → others R o q (xs ++ ys) ≡ xs ++ others R o q ys
  others_after q [] ys h = refl
  others_after q (e ∷ xs) ys h =
      ap (λ r. cond (not (is_eq r)) (e ∷ others R o q (xs ++ ys)) (others R o q (xs ++ ys))) (greater _ (left _ _ h))
      ∙ ap (λ zs. e ∷ zs) (others_after q xs ys (right _ _ h))

  others_before : (q : K) (xs ys : List (K × X)) → all_lower R o q xs ≡ false → T (is_sorted R (xs ++ ys))
      → others R o q (xs ++ ys) ≡ others R o q xs ++ ys
  others_before q [] ys h sorted = absurd (true≢false h)
  others_before q (e ∷ xs) ys h sorted =
      let all : T (below_all R q (xs ++ ys)) → others R o q (xs ++ ys) ≡ others R o q xs ++ ys =
      λ under. all_others R o q (xs ++ ys) under
      ∙ ap (λ zs. zs ++ ys) (sym (all_others R o q xs (below_front R o q xs ys under))) in
      elim (R q e.0) as (λ r. R q e.0 ≡ r → (is_gt r && all_lower R o q xs) ≡ false
      → cond (not (is_eq r)) (e ∷ others R o q (xs ++ ys)) (others R o q (xs ++ ys))
      ≡ cond (not (is_eq r)) (e ∷ others R o q xs) (others R o q xs) ++ ys) [
        | Less ↦ λ r _. ap (λ zs. e ∷ zs) (all (below_less R o q e.0 (xs ++ ys) r (first _ _ sorted)))
        | Equal ↦ λ r _. all (below_tied R o q e.0 (xs ++ ys) r (first _ _ sorted))
        | Greater ↦ λ r h. ap (λ zs. e ∷ zs) (others_before q xs ys h (second _ _ sorted))
      ] refl h

  below_later : (x : K) (xs : List (K × X)) (y : K × X) (zs : List (K × X)) → T (below_all R x (xs ++ y ∷ zs))
      → R x y.0 ≡ Less
  below_later x [] y zs h = less _ (first _ _ h)
  below_later x (e ∷ xs) y zs h = below_later x xs y zs (second _ _ h)

  -- what comes before keys below q is below it
  lower_before : (q : K) (xs ys zs : List (K × X)) → T (is_sorted R (xs ++ (ys ++ zs))) → 0 < length ys
      → all_lower R o q ys ≡ true → all_lower R o q xs ≡ true
  lower_before q xs [] zs sorted some h = absurd (omega arith)
  lower_before q [] (y ∷ ys) zs sorted some h = refl
  lower_before q (e ∷ xs) (y ∷ ys) zs sorted some h =
      let under : R y.0 q ≡ Less = turned R o q y.0 Greater (greater _ (left _ _ h)) in
      let here : R q e.0 ≡ Greater =
      turned R o e.0 q Less (o.trans e.0 y.0 q (below_later e.0 xs y (ys ++ zs) (first _ _ sorted)) under) in
      ap (λ r. is_gt r && all_lower R o q xs) here ∙ lower_before q xs (y ∷ ys) zs (second _ _ sorted) some h

  all_lower_both : (q : K) (xs ys : List (K × X)) → all_lower R o q xs ≡ true
      → all_lower R o q (xs ++ ys) ≡ all_lower R o q ys
  all_lower_both q [] ys h = refl
  all_lower_both q (e ∷ xs) ys h = ap (λ b. b && all_lower R o q (xs ++ ys)) (left _ _ h)
      ∙ all_lower_both q xs ys (right _ _ h)

-- ---- pieces

abbrev pub Shared : Type 0
Shared = List (Arc Registry Global)

pub sorted_rest : (m : Registry) (ms : List Registry) → T (is_sorted bytes_cmp (joined (m ∷ ms)))
    → T (is_sorted bytes_cmp (joined ms))
sorted_rest m ms sorted = sorted_back bytes_cmp nat_list_cmp_total (finite.entries m) (joined ms) sorted

module _ (q : List ℕ) where
  -- a search for the place of the piece for an id
  pub parted : (front rest : Shared) → T (is_sorted bytes_cmp (joined (map arc_value (front ++ rest))))
      → AreFilled (map arc_value (front ++ rest)) → IsPartitionedBy (λ p. ends_below q (arc_value p)) front
  parted [] rest sorted filled i j d le lt h = absurd (omega arith)
  parted (p ∷ front) rest sorted filled zero zero d le lt h = h
  parted (p ∷ []) rest sorted filled zero (suc j) d le lt h = absurd (omega arith)
  parted (p ∷ r ∷ front) rest sorted filled zero (suc j) d le lt h =
      let next : T (is_sorted bytes_cmp (joined (map arc_value ((r ∷ front) ++ rest)))) =
      sorted_rest (arc_value p) (map arc_value ((r ∷ front) ++ rest)) sorted in
      let some : 0 < length (finite.entries (arc_value r)) = rw (← len-entries (arc_value r)) filled.1.0.0 in
      lower_before bytes_cmp nat_list_cmp_total q (finite.entries (arc_value p)) (finite.entries (arc_value r))
      (joined (map arc_value (front ++ rest))) sorted some
      (parted (r ∷ front) rest next filled.1 0 j d (omega arith) (omega arith) h)
  parted (p ∷ front) rest sorted filled (suc i) zero d le lt h = absurd (omega arith)
  parted (p ∷ front) rest sorted filled (suc i) (suc j) d le lt h =
      parted front rest (sorted_rest (arc_value p) (map arc_value (front ++ rest)) sorted) filled.1 i j d (omega arith)
      (omega arith) h

  pub is_place : (front : Shared) (last : Arc Registry Global) (n : ℕ) → n ≤ length front
      → AllWithin (λ p. ends_below q (arc_value p) ≡ true) front 0 n
      → AllWithin (λ p. ends_below q (arc_value p) ≡ false) front n (length front)
      → IsPlaceFor q (map arc_value (front ++ last ∷ [])) n
  is_place [] last zero le low high = inr refl
  is_place [] last (suc n) le low high = absurd (omega arith)
  is_place (p ∷ front) last zero le low high = inl (high 0 p (omega arith) (omega arith))
  is_place (p ∷ front) last (suc n) le low high = (
    low 0 p (omega arith) (omega arith),
    is_place front last n (omega arith) (λ k d ge lt. low (suc k) d (omega arith) (omega arith))
        (λ k d ge lt. high (suc k) d (omega arith) (omega arith)),
  )

  pub place_within : (ms : List Registry) (n : ℕ) → IsPlaceFor q ms n → n < length ms
  place_within [] n at = absurd at
  place_within (m ∷ ms) zero at = omega arith
  place_within (m ∷ ms) (suc n) at = let rest : n < length ms = place_within ms n at.1 in omega arith

  alone : (m : Registry) (ms : List Registry) → ms ≡ [] → joined (m ∷ ms) ≡ finite.entries m
  alone m ms e = ap (λ ms. finite.entries m ++ joined ms) e ∙ append-nil (finite.entries m)

  pub found_in_all : (ms : List Registry) (n : ℕ) (d : Registry) → T (is_sorted bytes_cmp (joined ms))
      → IsPlaceFor q ms n → find bytes_cmp q (joined ms) ≡ find bytes_cmp q (finite.entries (get_or ms n d))
  found_in_all [] n d sorted at = absurd at
  found_in_all (m ∷ ms) zero d sorted (inl not_below) =
      find_before bytes_cmp nat_list_cmp_total q (finite.entries m) (joined ms) not_below sorted
  found_in_all (m ∷ ms) zero d sorted (inr last) = ap (find bytes_cmp q) (alone m ms last)
  found_in_all (m ∷ ms) (suc n) d sorted at =
      find_after bytes_cmp nat_list_cmp_total q (finite.entries m) (joined ms) at.0
      ∙ found_in_all ms n d (sorted_rest m ms sorted) at.1

  pub put_in_all : (v : Registered) (ms : List Registry) (n : ℕ) (d : Registry) → IsPlaceFor q ms n
      → joined (set ms n (finite.insert (get_or ms n d) q v)) ≡ put bytes_cmp q v (joined ms)
  put_in_all v [] n d at = absurd at
  put_in_all v (m ∷ ms) zero d (inl not_below) =
      ap (λ es. es ++ joined ms) (entries-insert nat_list_cmp_total m q v)
      ∙ sym (put_before bytes_cmp nat_list_cmp_total q v (finite.entries m) (joined ms) not_below)
  put_in_all v (m ∷ ms) zero d (inr last) =
      alone (finite.insert m q v) ms last ∙ entries-insert nat_list_cmp_total m q v
      ∙ ap (put bytes_cmp q v) (sym (alone m ms last))
  put_in_all v (m ∷ ms) (suc n) d at =
      ap (λ es. finite.entries m ++ es) (put_in_all v ms n d at.1)
      ∙ sym (put_after bytes_cmp nat_list_cmp_total q v (finite.entries m) (joined ms) at.0)

  pub taken_from_all : (ms : List Registry) (n : ℕ) (d : Registry) → T (is_sorted bytes_cmp (joined ms))
      → IsPlaceFor q ms n
      → joined (set ms n (finite.remove (get_or ms n d) q)) ≡ others bytes_cmp nat_list_cmp_total q (joined ms)
  taken_from_all [] n d sorted at = absurd at
  taken_from_all (m ∷ ms) zero d sorted (inl not_below) =
      ap (λ es. es ++ joined ms) (entries_remove m q)
      ∙ sym (others_before bytes_cmp nat_list_cmp_total q (finite.entries m) (joined ms) not_below sorted)
  taken_from_all (m ∷ ms) zero d sorted (inr last) =
      alone (finite.remove m q) ms last ∙ entries_remove m q
      ∙ ap (others bytes_cmp nat_list_cmp_total q) (sym (alone m ms last))
  taken_from_all (m ∷ ms) (suc n) d sorted at =
      ap (λ es. finite.entries m ++ es) (taken_from_all ms n d (sorted_rest m ms sorted) at.1)
      ∙ sym (others_after bytes_cmp nat_list_cmp_total q (finite.entries m) (joined ms) at.0)

  -- where a piece is cut, the upper one is for the id if each id of the lower is below it
  pub place_above : (ms : List Registry) (n : ℕ) (d a b : Registry) → IsPlaceFor q ms n
      → finite.entries a ++ finite.entries b ≡ finite.entries (get_or ms n d) → ends_below q a ≡ true
      → IsPlaceFor q (set (insert ms (suc n) b) n a) (suc n)
  place_above [] n d a b at cut below = absurd at
  place_above (m ∷ ms) zero d a b (inl not_below) cut below = (
    below,
    inl (sym (all_lower_both bytes_cmp nat_list_cmp_total q (finite.entries a) (finite.entries b) below)
        ∙ ap (all_lower bytes_cmp nat_list_cmp_total q) cut ∙ not_below),
  )
  place_above (m ∷ ms) zero d a b (inr last) cut below = (below, inr last)
  place_above (m ∷ ms) (suc n) d a b at cut below = (at.0, place_above ms n d a b at.1 cut below)

  pub place_under : (ms : List Registry) (n : ℕ) (a b : Registry) → IsPlaceFor q ms n → ends_below q a ≡ false
      → IsPlaceFor q (set (insert ms (suc n) b) n a) n
  place_under [] n a b at below = absurd at
  place_under (m ∷ ms) zero a b at below = inl below
  place_under (m ∷ ms) (suc n) a b at below = (at.0, place_under ms n a b at.1 below)

pub cut_in_all : (ms : List Registry) (n : ℕ) (d a b : Registry) → n < length ms → finite.entries a ++ finite.entries b
    ≡ finite.entries (get_or ms n d) → joined (set (insert ms (suc n) b) n a) ≡ joined ms
cut_in_all [] n d a b lt cut = absurd (omega arith)
cut_in_all (m ∷ ms) zero d a b lt cut = sym (append_assoc (finite.entries a) (finite.entries b) (joined ms))
    ∙ ap (λ es. es ++ joined ms) cut
cut_in_all (m ∷ ms) (suc n) d a b lt cut = ap (λ es. finite.entries m ++ es) (cut_in_all ms n d a b (omega arith) cut)

pub empty_goes : (ms : List Registry) (n : ℕ) (e : Registry) → n < length ms → finite.entries e ≡ []
    → joined (remove (set ms n e) n) ≡ joined (set ms n e)
empty_goes [] n e lt none = absurd (omega arith)
empty_goes (m ∷ ms) zero e lt none = sym (ap (λ es. es ++ joined ms) none)
empty_goes (m ∷ ms) (suc n) e lt none = ap (λ es. finite.entries m ++ es) (empty_goes ms n e (omega arith) none)

-- ---- how long the pieces are

abbrev pub IsFilled : Registry → Type 0
IsFilled m = (0 < finite.len m) × (finite.len m ≤ MOST_IN_PIECE)

pub filled_at : (ms : List Registry) (n : ℕ) (d : Registry) → AreFilled ms → n < length ms → IsFilled (get_or ms n d)
filled_at [] n d filled lt = absurd (omega arith)
filled_at (m ∷ ms) zero d filled lt = filled.0
filled_at (m ∷ ms) (suc n) d filled lt = filled_at ms n d filled.1 (omega arith)

pub filled_set : (ms : List Registry) (n : ℕ) (m : Registry) → AreFilled ms → IsFilled m → AreFilled (set ms n m)
filled_set [] n m filled here = tt
filled_set (x ∷ ms) zero m filled here = (here, filled.1)
filled_set (x ∷ ms) (suc n) m filled here = (filled.0, filled_set ms n m filled.1 here)

pub filled_insert : (ms : List Registry) (n : ℕ) (m : Registry) → AreFilled ms → IsFilled m → AreFilled (insert ms n m)
filled_insert [] zero m filled here = (here, tt)
filled_insert [] (suc n) m filled here = (here, tt)
filled_insert (x ∷ ms) zero m filled here = (here, filled)
filled_insert (x ∷ ms) (suc n) m filled here = (filled.0, filled_insert ms n m filled.1 here)

pub filled_without : (ms : List Registry) (n : ℕ) (m : Registry) → AreFilled ms → AreFilled (remove (set ms n m) n)
filled_without [] zero m filled = tt
filled_without [] (suc n) m filled = tt
filled_without (x ∷ ms) zero m filled = filled.1
filled_without (x ∷ ms) (suc n) m filled = (filled.0, filled_without ms n m filled.1)

-- ---- lists and what they are mapped to

map_remove : (xs : Shared) (n : ℕ) → map arc_value (remove xs n) ≡ remove (map arc_value xs) n
map_remove [] zero = refl
map_remove [] (suc n) = refl
map_remove (x ∷ xs) zero = refl
map_remove (x ∷ xs) (suc n) = ap (λ ms. arc_value x ∷ ms) (map_remove xs n)

map_insert : (xs : Shared) (n : ℕ) (y : Arc Registry Global) → map arc_value (insert xs n y)
    ≡ insert (map arc_value xs) n (arc_value y)
map_insert [] zero y = refl
map_insert [] (suc n) y = refl
map_insert (x ∷ xs) zero y = refl
map_insert (x ∷ xs) (suc n) y = ap (λ ms. arc_value x ∷ ms) (map_insert xs n y)

no_entries : (es : List Pair) → length es ≡ 0 → es ≡ []
no_entries [] e = refl
no_entries (x ∷ es) e = absurd (omega arith)

-- ---- the list of the pieces, as its clones share them

pub shared_at : (xs : Shared) (n : ℕ) (x : Arc Registry Global) (d : Registry) → n < length xs → x ≡ get_or xs n x
    → get_or (map arc_value xs) n d ≡ arc_value x
shared_at xs n x d lt e = get_or-map arc_value xs n x d lt ∙ ap arc_value (sym e)

pub shared_within : (q : List ℕ) (xs : Shared) (n : ℕ) → IsPlaceFor q (map arc_value xs) n → n < length xs
shared_within q xs n at = rw (← length-map xs arc_value) (place_within q (map arc_value xs) n at)

pub empty_map : (ms : List Registry) → joined ms ≡ [] → map_of ms ≡ finite.empty
empty_map ms e = ap finite.from_sorted e
    ∙ empty_of_len (finite.from_sorted []) (len-entries _ ∙ ap length (entries-from_sorted bytes_cmp [] tt))

pub kept_in_all : (xs : Shared) (n : ℕ) (x p : Arc Registry Global) → x ≡ get_or xs n x → arc_value p ≡ arc_value x
    → map arc_value (set xs n p) ≡ map arc_value xs
kept_in_all xs n x p e same =
    map-set arc_value xs n p ∙ ap (set (map arc_value xs) n) (same ∙ ap arc_value e)
    ∙ sym (map-set arc_value xs n (get_or xs n x)) ∙ ap (map arc_value) (set-get_or xs n x)

pub got_from_all : (q : List ℕ) (xs : Shared) (n : ℕ) (x : Arc Registry Global)
    → T (is_sorted bytes_cmp (joined (map arc_value xs))) → IsPlaceFor q (map arc_value xs) n → x ≡ get_or xs n x
    → finite.get (arc_value x) q ≡ finite.get (map_of (map arc_value xs)) q
got_from_all q xs n x sorted at e =
    let here : get_or (map arc_value xs) n (arc_value x) ≡ arc_value x =
    shared_at xs n x (arc_value x) (shared_within q xs n at) e in
    get-entries (arc_value x) q ∙ ap (λ m. find bytes_cmp q (finite.entries m)) (sym here)
    ∙ sym (found_in_all q (map arc_value xs) n (arc_value x) sorted at)
    ∙ sym (get-from_sorted bytes_cmp (joined (map arc_value xs)) q sorted)

pub got_from_none : (q : List ℕ) (ms : List Registry) → joined ms ≡ [] → None ≡ finite.get (map_of ms) q
got_from_none q ms e = sym (ap (λ m. finite.get m q) (empty_map ms e) ∙ get-empty bytes_cmp q)

-- an entry put into the piece for its id
more_by_one : (b : Bool) (n : ℕ) → 0 < n → n < MOST_IN_PIECE
    → (0 < cond b n (n + 1)) × (cond b n (n + 1) ≤ MOST_IN_PIECE)
more_by_one true n some room = (some, omega arith)
more_by_one false n some room = (omega arith, omega arith)

pub inserted_in_all : (xs : Shared) (n : ℕ) (x p : Arc Registry Global) (r : Registered)
    → AreInOrder (map arc_value xs) → HasRoomFor r.standing.id (map arc_value xs) n → x ≡ get_or xs n x
    → arc_value p ≡ insert_one (arc_value x) r → AreInOrder (map arc_value (set xs n p))
    × (map_of (map arc_value (set xs n p)) ≡ insert_one (map_of (map arc_value xs)) r)
inserted_in_all xs n x p r in_order room e is =
    let q = r.standing.id in
    let ms = map arc_value xs in
    let lt = shared_within q xs n room.at in
    let here : get_or ms n (arc_value x) ≡ arc_value x = shared_at xs n x (arc_value x) lt e in
    let new : map arc_value (set xs n p) ≡ set ms n (finite.insert (get_or ms n (arc_value x)) q r) =
    map-set arc_value xs n p ∙ ap (set ms n) (is ∙ ap (λ m. finite.insert m q r) (sym here)) in
    let whole : joined (map arc_value (set xs n p)) ≡ finite.entries (insert_one (map_of ms) r) =
    ap joined new ∙ put_in_all q r ms n (arc_value x) room.at
    ∙ ap (put bytes_cmp q r) (sym (entries-from_sorted bytes_cmp (joined ms) in_order.sorted))
    ∙ sym (entries-insert nat_list_cmp_total (map_of ms) q r) in
    let some : 0 < finite.len (get_or ms n (arc_value x)) =
    (filled_at ms n (arc_value x) in_order.filled (place_within q ms n room.at)).0 in
    let size : IsFilled (finite.insert (get_or ms n (arc_value x)) q r) =
    subst (λ k. (0 < k) × (k ≤ MOST_IN_PIECE)) (sym (len-insert nat_list_cmp_total (get_or ms n (arc_value x)) q r))
    (more_by_one _ _ some (room.room (arc_value x))) in
    let filled : AreFilled (map arc_value (set xs n p)) =
    subst AreFilled (sym new) (filled_set ms n _ in_order.filled size) in
    (record { sorted = (made _ _ whole).0; filled = filled }, (made _ _ whole).1)

-- the first entry
pub first_in_all : (old : List Registry) (xs ys : Shared) (p : Arc Registry Global) (r : Registered)
    → map arc_value xs ≡ [] → joined (map arc_value xs) ≡ joined old → ys ≡ xs ++ p ∷ []
    → arc_value p ≡ insert_one finite.empty r → AreInOrder (map arc_value ys)
    × (map_of (map arc_value ys) ≡ insert_one (map_of old) r)
first_in_all old xs ys p r none same pushed is =
    let q = r.standing.id in
    let here : arc_value p ≡ insert_one (map_of old) r =
    is ∙ ap (λ m. insert_one m r) (sym (empty_map old (sym same ∙ ap joined none))) in
    let new : map arc_value ys ≡ arc_value p ∷ [] = ap (map arc_value) pushed ∙ map-append arc_value xs (p ∷ [])
    ∙ ap (λ ms. ms ++ arc_value p ∷ []) none in
    let whole : joined (map arc_value ys) ≡ finite.entries (insert_one (map_of old) r) =
    ap joined new ∙ append-nil (finite.entries (arc_value p)) ∙ ap finite.entries here in
    let one : finite.len (arc_value p) ≡ 1 =
    ap finite.len is ∙ len-insert nat_list_cmp_total finite.empty q r
    ∙ ap (λ o. cond (is_some o) (finite.len {X = Registered} {R = bytes_cmp} finite.empty) (finite.len {X =
    Registered} {R = bytes_cmp} finite.empty + 1)) (get-empty bytes_cmp q)
    ∙ ap (λ n. n + 1) (len-empty bytes_cmp Registered) in
    let size : IsFilled (arc_value p) = (rw one (omega arith), rw one (lit≤ tt)) in
    (record { sorted = (made _ _ whole).0; filled = subst AreFilled (sym new) (size, tt) }, (made _ _ whole).1)

-- an entry taken out of the piece for its id
less_by_one : (b : Bool) (n : ℕ) → n ≤ MOST_IN_PIECE → cond b (n - 1) n ≤ MOST_IN_PIECE
less_by_one true n le = omega arith
less_by_one false n le = le

module _ (q : List ℕ) (xs : Shared) (n : ℕ) (x p : Arc Registry Global) (in_order : AreInOrder (map arc_value xs))
    (at : IsPlaceFor q (map arc_value xs) n) (e : x ≡ get_or xs n x)
    (is : arc_value p ≡ finite.remove (arc_value x) q) where
  removed_set : map arc_value (set xs n p)
      ≡ set (map arc_value xs) n (finite.remove (get_or (map arc_value xs) n (arc_value x)) q)
  removed_set =
      map-set arc_value xs n p
      ∙ ap (set (map arc_value xs) n) (is
      ∙ ap (λ m. finite.remove m q) (sym (shared_at xs n x (arc_value x) (shared_within q xs n at) e)))

  removed_whole : joined (map arc_value (set xs n p)) ≡ finite.entries (finite.remove (map_of (map arc_value xs)) q)
  removed_whole =
      ap joined removed_set ∙ taken_from_all q (map arc_value xs) n (arc_value x) in_order.sorted at
      ∙ ap (others bytes_cmp nat_list_cmp_total q)
      (sym (entries-from_sorted bytes_cmp (joined (map arc_value xs)) in_order.sorted))
      ∙ sym (entries_remove (map_of (map arc_value xs)) q)

  pub removed_from_all : 0 < finite.len (arc_value p) → AreInOrder (map arc_value (set xs n p))
      × (map_of (map arc_value (set xs n p)) ≡ finite.remove (map_of (map arc_value xs)) q)
  removed_from_all some =
      let was = filled_at (map arc_value xs) n (arc_value x) in_order.filled (place_within q (map arc_value xs) n at) in
      let few : finite.len (arc_value p) ≤ MOST_IN_PIECE =
      subst (λ m. finite.len m
      ≤ MOST_IN_PIECE) (sym (is
      ∙ ap (λ m. finite.remove m q) (sym (shared_at xs n x (arc_value x) (shared_within q xs n at) e))))
      (subst (λ k. k ≤ MOST_IN_PIECE)
      (sym (len-remove nat_list_cmp_total (get_or (map arc_value xs) n (arc_value x)) q)) (less_by_one _ _ was.1))
      in
      let filled : AreFilled (map arc_value (set xs n p)) =
      subst AreFilled (sym (map-set arc_value xs n p))
      (filled_set (map arc_value xs) n (arc_value p) in_order.filled (some, few)) in
      (record { sorted = (made _ _ removed_whole).0; filled = filled }, (made _ _ removed_whole).1)

  pub removed_last : finite.len (arc_value p) ≡ 0 → AreInOrder (map arc_value (remove (set xs n p) n))
      × (map_of (map arc_value (remove (set xs n p) n)) ≡ finite.remove (map_of (map arc_value xs)) q)
  removed_last none =
      let ms = map arc_value xs in
      let new : map arc_value (remove (set xs n p) n) ≡ remove (set ms n (arc_value p)) n =
      map_remove (set xs n p) n ∙ ap (λ ms. remove ms n) (map-set arc_value xs n p) in
      let empty : finite.entries (arc_value p) ≡ [] =
      no_entries (finite.entries (arc_value p)) (sym (len-entries (arc_value p)) ∙ none) in
      let whole : joined (map arc_value (remove (set xs n p) n)) ≡ finite.entries (finite.remove (map_of ms) q) =
      ap joined new ∙ empty_goes ms n (arc_value p) (place_within q ms n at) empty
      ∙ ap joined (sym (map-set arc_value xs n p)) ∙ removed_whole in (
        record {
          sorted = (made _ _ whole).0;
          filled =
              subst AreFilled (sym new) (filled_without ms n (arc_value p) in_order.filled);
        },
        (made _ _ whole).1,
      )

-- a full piece cut in two
cut_lower : (ms : List Registry) (n : ℕ) (a b d : Registry) → n < length ms
    → get_or (set (insert ms (suc n) b) n a) n d ≡ a
cut_lower [] n a b d lt = absurd (omega arith)
cut_lower (m ∷ ms) zero a b d lt = refl
cut_lower (m ∷ ms) (suc n) a b d lt = cut_lower ms n a b d (omega arith)

cut_upper : (ms : List Registry) (n : ℕ) (a b d : Registry) → n < length ms
    → get_or (set (insert ms (suc n) b) n a) (suc n) d ≡ b
cut_upper [] n a b d lt = absurd (omega arith)
cut_upper (m ∷ ms) zero a b d lt = refl
cut_upper (m ∷ ms) (suc n) a b d lt = cut_upper ms n a b d (omega arith)

module _ (q : List ℕ) (xs ys : Shared) (n : ℕ) (x lower upper : Arc Registry Global)
    (in_order : AreInOrder (map arc_value xs)) (at : IsPlaceFor q (map arc_value xs) n) (e : x ≡ get_or xs n x)
    (full : finite.len (arc_value x)
    ≡ MOST_IN_PIECE) (halves : AreHalves (arc_value x) (arc_value lower) (arc_value upper)) (made_room : ys
    ≡ insert xs (n + 1) upper) where
  split_set : map arc_value (set ys n lower)
      ≡ set (insert (map arc_value xs) (suc n) (arc_value upper)) n (arc_value lower)
  split_set =
      map-set arc_value ys n lower
      ∙ ap (λ ms. set ms n (arc_value lower)) (ap (map arc_value) (made_room
      ∙ ap (λ k. insert xs k upper) (add-one n)) ∙ map_insert xs (suc n) upper)

  split_cut : finite.entries (arc_value lower) ++ finite.entries (arc_value upper)
      ≡ finite.entries (get_or (map arc_value xs) n (arc_value x))
  split_cut = halves.entries ∙ ap finite.entries (sym (shared_at xs n x (arc_value x) (shared_within q xs n at) e))

  pub split_same : joined (map arc_value (set ys n lower)) ≡ joined (map arc_value xs)
  split_same = ap joined split_set
      ∙ cut_in_all (map arc_value xs) n (arc_value x) (arc_value lower) (arc_value upper)
      (place_within q (map arc_value xs) n at) split_cut

  split_half : (finite.len (arc_value lower) ≡ 256) × (finite.len (arc_value upper) ≡ 256)
  split_half =
      let low : finite.len (arc_value lower) ≡ 256 = halves.half ∙ ap (λ k. k / 2) full in
      let both : finite.len (arc_value lower) + finite.len (arc_value upper) ≡ 512 =
      (λ i. len-entries (arc_value lower) i + len-entries (arc_value upper) i)
      ∙ sym (length-append (finite.entries (arc_value lower)) (finite.entries (arc_value upper)))
      ∙ ap length halves.entries ∙ sym (len-entries (arc_value x)) ∙ full in
      (low, omega arith)

  half_filled : (m : Registry) → finite.len m ≡ 256 → IsFilled m
  half_filled m e = (rw e (lit< tt), rw e (lit≤ tt))

  pub split_in_order : AreInOrder (map arc_value (set ys n lower))
  split_in_order = record {
    sorted = subst (λ es. T (is_sorted bytes_cmp es)) (sym split_same) in_order.sorted;
    filled = subst AreFilled (sym split_set)
        (filled_set (insert (map arc_value xs) (suc n) (arc_value upper)) n (arc_value lower)
        (filled_insert (map arc_value xs) (suc n) (arc_value upper) in_order.filled (half_filled _ split_half.1))
        (half_filled _ split_half.0));
  }

  pub room_above : ends_below q (arc_value lower) ≡ true → HasRoomFor q (map arc_value (set ys n lower)) (suc n)
  room_above below = subst (λ ms. HasRoomFor q ms (suc n)) (sym split_set) (record {
    at = place_above q (map arc_value xs) n (arc_value x) (arc_value lower) (arc_value upper) at split_cut below;
    room = λ d. rw (
      cut_upper (map arc_value xs) n (arc_value lower) (arc_value upper) d
          (place_within q (map arc_value xs) n at),
      split_half.1,
    ) (lit< tt);
  })

  pub room_under : ends_below q (arc_value lower) ≡ false → HasRoomFor q (map arc_value (set ys n lower)) n
  room_under below = subst (λ ms. HasRoomFor q ms n) (sym split_set) (record {
    at = place_under q (map arc_value xs) n (arc_value lower) (arc_value upper) at below;
    room = λ d. rw (
      cut_lower (map arc_value xs) n (arc_value lower) (arc_value upper) d
          (place_within q (map arc_value xs) n at),
      split_half.0,
    ) (lit< tt);
  })

pub removed_from_none : (q : List ℕ) (ms : List Registry) → joined ms ≡ [] → map_of ms ≡ finite.remove (map_of ms) q
removed_from_none q ms e = removed_none (map_of ms) q (ap is_some (sym (got_from_none q ms e)))

-- ---- the count of the entries

pub nothing_yet : (xs : Shared) → xs ≡ [] → AreInOrder (map arc_value xs) × (0 ≡ finite.len (map_of (map arc_value xs)))
nothing_yet xs e =
    subst (λ (ys : Shared). AreInOrder (map arc_value ys) × (0 ≡ finite.len (map_of (map arc_value ys)))) (sym e)
    (record { sorted = tt; filled = tt }, sym (ap finite.len (empty_map [] refl) ∙ len-empty bytes_cmp Registered))

is_mapped : (o : Option (Arc Registered Global)) → is_some (option_map arc_value o) ≡ is_some o
is_mapped None = refl
is_mapped (Some x) = refl

is_key : (m : Registry) (q : List ℕ) (o : Option (Arc Registered Global)) (b : Bool)
    → option_map arc_value o ≡ finite.get m q → is_some o ≡ b → finite.contains_key m q ≡ b
is_key m q o b got is = ap is_some (sym got) ∙ is_mapped o ∙ is

pub counted_more : (m new : Registry) (r : Registered) (o : Option (Arc Registered Global)) (b : Bool)
    → new ≡ insert_one m r → option_map arc_value o ≡ finite.get m r.standing.id → is_some o ≡ b
    → finite.len new ≡ cond b (finite.len m) (finite.len m + 1)
counted_more m new r o b e got is =
    ap finite.len e ∙ len-insert nat_list_cmp_total m r.standing.id r
    ∙ ap (λ c. cond c (finite.len m) (finite.len m + 1)) (is_key m r.standing.id o b got is)

pub counted_less : (m new : Registry) (q : List ℕ) (o : Option (Arc Registered Global)) (b : Bool)
    → new ≡ finite.remove m q → option_map arc_value o ≡ finite.get m q → is_some o ≡ b
    → finite.len new ≡ cond b (finite.len m - 1) (finite.len m)
counted_less m new q o b e got is =
    ap finite.len e ∙ len-remove nat_list_cmp_total m q
    ∙ ap (λ c. cond c (finite.len m - 1) (finite.len m)) (is_key m q o b got is)

not_zero : (n : ℕ) → (n ≡ 0 → ⊥) → 1 ≤ n
not_zero zero h = absurd (h refl)
not_zero (suc n) h = omega arith

pub some_counted : (m : Registry) (q : List ℕ) (o : Option (Arc Registered Global))
    → option_map arc_value o ≡ finite.get m q → is_some o ≡ true → 1 ≤ finite.len m
some_counted m q o got is =
    not_zero (finite.len m) (λ e. true≢false (sym (is_key m q o true got is)
    ∙ ap is_some (ap (λ m. finite.get m q) (empty_of_len m e) ∙ get-empty bytes_cmp q)))

pub on_err : {T E P : Type 0} (r : Result T E) → P → OnErr r P
on_err (Ok x) p = tt
on_err (Err e) p = p
