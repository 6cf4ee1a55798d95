-- Lists of entries whose keys rise: where a search ends, what it finds there, and what an insertion there makes.
use Rattle.std.proofs.Common.{◌≡◌, ◌≢◌, All, map, Global, ℕ, zero, suc, ◌+◌, ◌<◌, ◌≤◌, Bool, true, false, cond, T, List}
use Rattle.std.proofs.Common.{[], ◌∷◌, length, get_or, Some, None, Option, is_some, is_lt, is_eq, is_gt, Ordering, Less}
use Rattle.std.proofs.Common.{Equal, Greater, insert, refl, sym, ap, subst, ◌∙◌, arith, true≢false}
use Rattle.std.specs.Arc.{arc_str_bytes}
use Rattle.std.specs.List.{prefix_len}
use Rattle.std.specs.List.Sorted.{IsPartitionedBy, IsPartitionPoint}
use Rattle.std.specs.Ordering.{ordering_reverse}
use Rattle.std.specs.Cmp.{IsTotalOrder}
use Rattle.std.specs.FinMap.{FinMap, empty, empty_of_len, len-entries, find, put, is_sorted, from_sorted, entries}
use Rattle.std.specs.FinMap.{entries-from_sorted}
use Rattle.std.specs.FinMap as finite
use Rattle.std.specs.FinMap.{get, contains_key, get-entries, entries-insert, entries_sorted, same_entries_map}
use Rattle.std.specs.FinMap.{IsAntisymmetric, slice_cmp-IsAntisymmetric, nat_cmp-IsAntisymmetric}
use Rattle.std.specs.FinMap.Entries.{below_all, by_order}
use Rattle.std.specs.Str.{IsUtf8}
use Rattle.std.specs.declared.sync.ArcStr.{ArcStr}
use Rattle.std.proofs.lemmas.Cmp.{tied_itself}
use Rattle.std.proofs.lemmas.List.Elements.{All-nil, All-cons}
use Rattle.std.proofs.lemmas.List.Sums.{prefix_len_is, prefix_len-le-length}
use Rattle.std.proofs.lemmas.Str.{IsUtf8-string_bytes}
use Rattle.std.specs.Cmp.Lexicographic.{nat_list_cmp_total}
use Rattle.clip_words.specs.Order.{bytes_cmp}
use Rattle.clip_grammar.proofs.Booleans.{first, second, both}
use Rattle.clip_grammar.proofs.Orderings.{less, greater}
use Rattle.clip_meaning.specs.Article.{Fields}

-- where the elements that pass a test end
pub prefix_from_point : {X : Type 0} (p : X → Bool) (xs : List X) (i : ℕ) (d : X) → i ≤ length xs
    → IsPartitionPoint (λ y. p y ≡ true) (λ y. p y ≡ false) xs i → i ≡ prefix_len p xs
prefix_from_point p xs i d bound point =
    sym (prefix_len_is p xs i d bound (λ k l. point.0 k d (omega arith) l) (λ l. point.1 i d (omega arith) l))

-- what is above y is above what is below y
pub above_lower : {K : Type 0} (R : K → K → Ordering) (o : IsTotalOrder R) (q x y : K) → is_gt (R q y) ≡ true
    → R x y ≡ Less → is_gt (R q x) ≡ true
above_lower R o q x y g l =
    let turned : R y q ≡ Less = o.antisymm y q ∙ ap ordering_reverse (greater _ g) in
    ap is_gt (o.antisymm q x ∙ ap ordering_reverse (o.trans x y q l turned))

-- ---- any keys

module _ {K X : Type 0} (R : K → K → Ordering) (o : IsTotalOrder R) where
  -- how many keys at the front are below q
  abbrev pub count : K → List (K × X) → ℕ
  count q es = prefix_len (λ (e : K × X). is_gt (R q e.0)) es

  below_at : (x : K) (es : List (K × X)) (j : ℕ) (d : K × X) → T (below_all R x es) → j < length es
      → R x (get_or es j d).0 ≡ Less
  below_at x [] j d h lt = absurd (omega arith)
  below_at x (e ∷ es) zero d h lt = less _ (first _ _ h)
  below_at x (e ∷ es) (suc j) d h lt = below_at x es j d (second _ _ h) (omega arith)

  -- a key that is below q comes before each that is not
  pub partitioned : (q : K) (es : List (K × X)) → T (is_sorted R es)
      → IsPartitionedBy (λ (e : K × X). is_gt (R q e.0)) es
  partitioned q [] h i j d le lt g = absurd (omega arith)
  partitioned q (e ∷ es) h zero zero d le lt g = g
  partitioned q (e ∷ es) h zero (suc j) d le lt g =
      above_lower R o q e.0 _ g (below_at e.0 es j d (first _ _ h) (omega arith))
  partitioned q (e ∷ es) h (suc i) zero d le lt g = absurd (omega arith)
  partitioned q (e ∷ es) h (suc i) (suc j) d le lt g =
      partitioned q es (second _ _ h) i j d (omega arith) (omega arith) g

  none_below : (q : K) (es : List (K × X)) → T (below_all R q es) → find R q es ≡ None
  none_below q [] h = refl
  none_below q (e ∷ es) h = ap (λ r. cond (is_eq r) (Some e.1) (find R q es)) (less _ (first _ _ h))
      ∙ none_below q es (second _ _ h)

  below_less : (x y : K) (es : List (K × X)) → R x y ≡ Less → T (below_all R y es) → T (below_all R x es)
  below_less x y [] p h = tt
  below_less x y (e ∷ es) p h =
      both _ _ (subst (λ r. T (is_lt r)) (sym (o.trans x y e.0 p (less _ (first _ _ h)))) tt)
      (below_less x y es p (second _ _ h))

  -- the key stands where the search ends
  pub found : (q : K) (es : List (K × X)) (n : ℕ) (d : K × X) → n ≡ count q es → n < length es → (get_or es n d).0 ≡ q
      → find R q es ≡ Some (get_or es n d).1
  found q [] n d is lt same = absurd (omega arith)
  found q (e ∷ es) zero d is lt same =
      ap (λ r. cond (is_eq r) (Some e.1) (find R q es)) (ap (R q) same ∙ tied_itself o q)
  found q (e ∷ es) (suc n) d is lt same =
      elim (R q e.0) as (λ r. suc n ≡ cond (is_gt r) (1 + count q es) 0 → cond (is_eq r) (Some e.1) (find R q es)
      ≡ Some (get_or es n d).1) [
        | Less ↦ λ e. absurd (omega arith)
        | Equal ↦ λ e. absurd (omega arith)
        | Greater ↦ λ e. found q es n d (omega arith) (omega arith) same
      ] is

  -- another key stands there, or none
  pub absent : (q : K) (es : List (K × X)) (n : ℕ) (d : K × X) → T (is_sorted R es) → ((x : K) → R q x ≡ Equal → q ≡ x)
      → n ≡ count q es → (n < length es → (get_or es n d).0 ≢ q) → find R q es ≡ None
  absent q [] n d h same is apart = refl
  absent q (e ∷ es) zero d h same is apart =
      elim (R q e.0) as (λ r. R q e.0 ≡ r → 0 ≡ cond (is_gt r) (1 + count q es) 0
      → cond (is_eq r) (Some e.1) (find R q es) ≡ None) [
        | Less ↦ λ r z. none_below q es (below_less q e.0 es r (first _ _ h))
        | Equal ↦ λ r z. absurd (apart (omega arith) (sym (same e.0 r)))
        | Greater ↦ λ r z. absurd (omega arith)
      ] refl is
  absent q (e ∷ es) (suc n) d h same is apart =
      elim (R q e.0) as (λ r. suc n ≡ cond (is_gt r) (1 + count q es) 0 → cond (is_eq r) (Some e.1) (find R q es)
      ≡ None) [
        | Less ↦ λ z. absurd (omega arith)
        | Equal ↦ λ z. absurd (omega arith)
        | Greater ↦ λ z. absent q es n d (second _ _ h) same (omega arith) (λ lt. apart (omega arith))
      ] is

  -- an entry whose key is new goes where the search ends
  pub put_new : (q : K) (v : X) (es : List (K × X)) (n : ℕ) → find R q es ≡ None → n ≡ count q es
      → insert es n (q, v) ≡ put R q v es
  put_new q v [] zero none is = refl
  put_new q v [] (suc n) none is = absurd (omega arith)
  put_new q v (e ∷ es) zero none is =
      elim (R q e.0) as (λ r. cond (is_eq r) (Some e.1) (find R q es) ≡ None → 0 ≡ cond (is_gt r) (1 + count q es) 0
      → (q, v) ∷ e ∷ es ≡ by_order r ((q, v) ∷ e ∷ es) ((e.0, v) ∷ es) (e ∷ put R q v es)) [
        | Less ↦ λ none z. refl
        | Equal ↦ λ none z. absurd cc
        | Greater ↦ λ none z. absurd (omega arith)
      ] none is
  put_new q v (e ∷ es) (suc n) none is =
      elim (R q e.0) as (λ r. cond (is_eq r) (Some e.1) (find R q es) ≡ None
      → suc n ≡ cond (is_gt r) (1 + count q es) 0 → insert (e ∷ es) (suc n) (q, v)
      ≡ by_order r ((q, v) ∷ e ∷ es) ((e.0, v) ∷ es) (e ∷ put R q v es)) [
        | Less ↦ λ none z. absurd (omega arith)
        | Equal ↦ λ none z. absurd (omega arith)
        | Greater ↦ λ none z. ap (λ xs. e ∷ xs) (put_new q v es n none (omega arith))
      ] none is

-- the entries of a map that is kept as a list in order
pub kept_entries : {K X : Type 0} {R : K → K → Ordering} (es : List (K × X)) (m : FinMap R X) → T (is_sorted R es)
    → from_sorted es ≡ m → es ≡ entries m
kept_entries {R = R} es m h e = sym (entries-from_sorted R es h) ∙ ap entries e

pub empty_map : {K X : Type 0} (R : K → K → Ordering) (es : List (K × X)) → es ≡ [] → from_sorted {R = R} es ≡ empty
empty_map R es e = ap from_sorted e
    ∙ empty_of_len (from_sorted []) (len-entries _ ∙ ap length (entries-from_sorted R [] tt))

-- ---- fields by their names

is_none_from : {X : Type 0} (o : Option X) → is_some o ≡ false → o ≡ None
is_none_from None e = refl
is_none_from (Some x) e = absurd (true≢false e)

pub bytes_exact : IsAntisymmetric bytes_cmp
bytes_exact = slice_cmp-IsAntisymmetric nat_cmp-IsAntisymmetric

abbrev pub Entry : Type 0
Entry = List ℕ × List (List ℕ)

-- the entry where the search ends has the name
pub got : (es : List Entry) (m : Fields) (q : List ℕ) (n : ℕ) (f : Entry) → es ≡ entries m
    → n ≡ count bytes_cmp nat_list_cmp_total q (entries m) → n < length es → f ≡ get_or es n f → f.0 ≡ q
    → Some f.1 ≡ get m q
got es m q n f kept is lt there same =
    let named : (get_or es n f).0 ≡ q = ap (λ (e : Entry). e.0) (sym there) ∙ same in
    ap (λ (e : Entry). Some e.1) there
    ∙ sym (found bytes_cmp nat_list_cmp_total q es n f (is
    ∙ ap (count bytes_cmp nat_list_cmp_total q) (sym kept)) lt named)
    ∙ ap (find bytes_cmp q) kept ∙ sym (get-entries m q)

-- it has not, or there is none
pub not_got : (es : List Entry) (m : Fields) (q : List ℕ) (n : ℕ) (d : Entry) → es ≡ entries m
    → n ≡ count bytes_cmp nat_list_cmp_total q (entries m) → (n < length es → (get_or es n d).0 ≢ q) → None ≡ get m q
not_got es m q n d kept is apart =
    let sorted : T (is_sorted bytes_cmp es) = subst (λ xs. T (is_sorted bytes_cmp xs)) (sym kept) (entries_sorted m) in
    sym (absent bytes_cmp nat_list_cmp_total q es n d sorted (bytes_exact q) (is
    ∙ ap (count bytes_cmp nat_list_cmp_total q) (sym kept)) apart)
    ∙ ap (find bytes_cmp q) kept ∙ sym (get-entries m q)

-- a new name's entry is put where the search for it ends
pub inserted : (es new : List Entry) (m : Fields) (q : List ℕ) (v : List (List ℕ)) (n : ℕ) → T (is_sorted bytes_cmp es)
    → from_sorted es ≡ m → n ≡ count bytes_cmp nat_list_cmp_total q (entries m) → contains_key m q ≡ false
    → new ≡ insert es n (q, v)
    → T (is_sorted bytes_cmp new) × (from_sorted new ≡ finite.insert m q v)
inserted es new m q v n h e is fresh made =
    let same : es ≡ entries m = kept_entries es m h e in
    let none : find bytes_cmp q (entries m) ≡ None = sym (get-entries m q) ∙ is_none_from _ fresh in
    let put_is : new ≡ entries (finite.insert m q v) = made ∙ ap (λ xs. insert xs n (q, v)) same
    ∙ put_new bytes_cmp nat_list_cmp_total q v (entries m) n none is
    ∙ sym (entries-insert nat_list_cmp_total m q v) in
    let sorted : T (is_sorted bytes_cmp new) =
    subst (λ xs. T (is_sorted bytes_cmp xs)) (sym put_is) (entries_sorted (finite.insert m q v)) in
    (sorted, same_entries_map _ _ (entries-from_sorted bytes_cmp new sorted ∙ put_is))

pub place_within : (es : List Entry) (m : Fields) (q : List ℕ) (n : ℕ) → T (is_sorted bytes_cmp es)
    → from_sorted es ≡ m → n ≡ count bytes_cmp nat_list_cmp_total q (entries m) → n ≤ length es
place_within es m q n h e is =
    rw (is, kept_entries es m h e) (prefix_len-le-length (λ (x : Entry). is_gt (bytes_cmp q x.0)) (entries m))

-- ---- words

-- shared texts are texts
pub texts_all : (words : List (ArcStr Global)) → All IsUtf8 (map arc_str_bytes words)
texts_all [] = All-nil IsUtf8
texts_all (word ∷ words) =
    All-cons IsUtf8 (arc_str_bytes word) (map arc_str_bytes words) (IsUtf8-string_bytes word.text.value)
    (texts_all words)
