-- Lists that strictly rise, as the keys of finite maps: they are what their members are.
use Rattle.std.proofs.Common.{◌≡◌, true, ◌||◌, List, [], ◌∷◌, map, flat_map, Option, Some, None, Bool, is_some, refl}
use Rattle.std.proofs.Common.{sym, ap, ◌∙◌, subst, is_lt}
use Rattle.std.specs.Cmp.{IsEquivalence, IsTotalOrder, Equal-is, eq_by_cmp_equiv}
use Rattle.std.specs.FinMap as finite
use Rattle.std.specs.FinMap.{IsAntisymmetric}
use Rattle.std.specs.FinMap.Entries.{is_sorted, below_all, is_some-find}
use Rattle.std.specs.List.{list_any, dedup, Contains, AllByRecursion}
use Rattle.std.specs.List.Sorted.{IsStrictlySortedBy}
use Rattle.std.specs.Map.{keys_of}
use Rattle.std.specs.Ordering.{eq_by_cmp}
use Rattle.std.specs.declared.cmp.Ordering.{Ordering}
use Rattle.std.specs.declared.cmp.Ordering.TheVariants.{Less}
use Rattle.std.proofs.lemmas.Bool.{and_from, and_parts, false≢true}
use Rattle.std.proofs.lemmas.Float.{T_from_true}
use Rattle.std.proofs.lemmas.List.Folds.{Any-from_list_any, list_any_at, list_any-append}
use Rattle.std.proofs.lemmas.List.Kept.{Any-dedup, Contains-from_dedup}
use Rattle.std.proofs.lemmas.Map.Views.{Contains-from_any, list_any-from_Contains}
use Rattle.clip_grammar.proofs.Booleans.{truth, same_answer}
use Rattle.clip_grammar.proofs.Orderings.{less}

-- the members of one list are among those of another
pub any_kept : {A : Type 0} (p : A → Bool) (xs ys : List A) → ((x : A) → Contains xs x → Contains ys x)
    → list_any p xs ≡ true → list_any p ys ≡ true
any_kept p xs ys keeps h =
    let a = Any-from_list_any p xs h in
    let c = keeps a.1 (a.0, a.2, a.3) in
    list_any_at p ys c.0 a.1 c.1 (ap p c.2 ∙ a.4)

pub any_map : {A B : Type 0} (p : B → Bool) (f : A → B) (xs : List A)
    → list_any p (map f xs) ≡ list_any (λ x. p (f x)) xs
any_map p f [] = refl
any_map p f (x ∷ xs) = ap (λ b. p (f x) || b) (any_map p f xs)

pub any_flat_map : {A B : Type 0} (p : B → Bool) (f : A → List B) (xs : List A)
    → list_any p (flat_map f xs) ≡ list_any (λ a. list_any p (f a)) xs
any_flat_map p f [] = refl
any_flat_map p f (a ∷ xs) = list_any-append p (f a) (flat_map f xs)
    ∙ ap (λ x. list_any p (f a) || x) (any_flat_map p f xs)

-- a `dedup` by an equality that f respects keeps what passes a test of f
pub any_deduped : {A B : Type 0} {eq : A → A → Bool} (laws : IsEquivalence eq) (f : A → B) (same : (x y : A)
    → eq x y ≡ true → f x ≡ f y) (p : B → Bool) (xs : List A) → list_any (λ x. p (f x)) (dedup eq xs)
    ≡ list_any (λ x. p (f x)) xs
any_deduped {eq = eq} laws f same p xs =
    same_answer _ _
    (any_kept (λ x. p (f x)) (dedup eq xs) xs (Contains-from_dedup eq xs))
    (λ h. let a = Any-from_list_any (λ x. p (f x)) xs h in
    let b = Any-dedup laws xs a.1 (a.0, a.2, a.3) in
    list_any_at (λ x. p (f x)) (dedup eq xs) b.0 b.1 b.2 (ap (λ x. p (f x)) b.3 ∙ ap p (sym (same a.1 b.1 b.4)) ∙ a.4))

same_option : (a b : Option (Unit {0})) → is_some a ≡ is_some b → a ≡ b
same_option None None e = refl
same_option None (Some u) e = absurd (false≢true e)
same_option (Some u) None e = absurd (false≢true (sym e))
same_option (Some u) (Some v) e = refl

pub less_from : (r : Ordering) → is_lt r ≡ true → r ≡ Less
less_from r h = less r (T_from_true (is_lt r) h)

module _ {K X : Type 0} (R : K → K → Ordering) where
  below_keys : (k : K) (es : List (K × X)) → AllByRecursion (λ l. R k l ≡ Less) (keys_of es) → below_all R k es ≡ true
  below_keys k [] all = refl
  below_keys k (e ∷ es) all = and_from (is_lt (R k e.0)) _ (ap is_lt all.0) (below_keys k es all.1)

  -- entries whose keys rise strictly are those of a finite map
  pub sorted_keys : (es : List (K × X)) → IsStrictlySortedBy R (keys_of es) → is_sorted R es ≡ true
  unfolding IsStrictlySortedBy
  sorted_keys [] sorted = refl
  sorted_keys (e ∷ es) sorted = and_from (below_all R e.0 es) _ (below_keys e.0 es sorted.0) (sorted_keys es sorted.1)

  keys_below : (k : K) (es : List (K × X)) → below_all R k es ≡ true → AllByRecursion (λ l. R k l ≡ Less) (keys_of es)
  keys_below k [] below = tt
  keys_below k (e ∷ es) below =
      let parts = and_parts (is_lt (R k e.0)) _ below in
      (less_from (R k e.0) parts.0, keys_below k es parts.1)

  keys_rise : (es : List (K × X)) → is_sorted R es ≡ true → IsStrictlySortedBy R (keys_of es)
  unfolding IsStrictlySortedBy
  keys_rise [] sorted = tt
  keys_rise (e ∷ es) sorted =
      let parts = and_parts (below_all R e.0 es) _ sorted in
      (keys_below e.0 es parts.0, keys_rise es parts.1)

-- the entries of a finite map are sorted, and its keys rise strictly
pub entries_in_order : {K X : Type 0} (R : K → K → Ordering) (m : finite.FinMap R X) → is_sorted R (finite.entries m)
    ≡ true
entries_in_order R m = truth _ (finite.entries_sorted m)

pub keys_in_order : {K X : Type 0} (R : K → K → Ordering) (m : finite.FinMap R X) → IsStrictlySortedBy R (finite.keys m)
keys_in_order R m = keys_rise R (finite.entries m) (entries_in_order R m)

-- keys as the entries of a finite map
abbrev pub marked : {K : Type 0} → List K → List (K × Unit {0})
marked ks = map (λ key. (key, tt {0})) ks

unmarked : {K : Type 0} (ks : List K) → map (λ (e : K × Unit {0}). e.0) (marked ks) ≡ ks
unmarked [] = refl
unmarked (k ∷ ks) = ap (λ xs. k ∷ xs) (unmarked ks)

is_found : {K : Type 0} (R : K → K → Ordering) (q : K) (ks : List K) → is_some (finite.find R q (marked ks))
    ≡ list_any (eq_by_cmp R q) ks
is_found R q ks = is_some-find R q (marked ks) ∙ ap (list_any (eq_by_cmp R q)) (unmarked ks)

module _ {K : Type 0} {R : K → K → Ordering} (o : IsTotalOrder R) (exact : IsAntisymmetric R) where
  -- a strictly sorted list has the keys of the finite map of a list with the same members
  pub strict_keys : (ks ls : List K) → IsStrictlySortedBy R ks
      → ((q : K) → list_any (eq_by_cmp R q) ks ≡ list_any (eq_by_cmp R q) ls)
      → ks ≡ finite.keys (finite.from_entries {R = R} (map (λ k. (k, tt {0})) ls))
  strict_keys ks ls strict same =
      let sorted = T_from_true (is_sorted R (marked ks))
      (sorted_keys R (marked ks) (subst (IsStrictlySortedBy R) (sym (unmarked ks)) strict)) in
      let maps : finite.from_sorted {R = R} (marked ks) ≡ finite.from_entries {R = R} (marked ls) =
      finite.same_map o exact _ _
      (λ q. finite.get-from_sorted R (marked ks) q sorted
      ∙ same_option _ _ (is_found R q ks ∙ same q ∙ sym (is_found R q ls))
      ∙ sym (finite.get-from_entries o (marked ls) q)) in
      sym (unmarked ks) ∙ ap (map (λ (e : K × Unit {0}). e.0)) (sym (finite.entries-from_sorted R (marked ks) sorted))
      ∙ ap finite.keys maps

  -- two strictly sorted lists with the same members are one
  pub same_strict : (ms ns : List K) → IsStrictlySortedBy R ms → IsStrictlySortedBy R ns
      → ((q : K) → list_any (eq_by_cmp R q) ms ≡ list_any (eq_by_cmp R q) ns) → ms ≡ ns
  same_strict ms ns left right same = strict_keys ms ns left same ∙ sym (strict_keys ns ns right (λ q. refl))

  -- two lists with the same members pass each test alike
  pub same_members : (p : K → Bool) (ks ls : List K)
      → ((q : K) → list_any (eq_by_cmp R q) ks ≡ list_any (eq_by_cmp R q) ls) → list_any p ks ≡ list_any p ls
  same_members p ks ls same =
      let laws = eq_by_cmp_equiv o in
      let equal : (x y : K) → eq_by_cmp R x y ≡ true → x ≡ y = λ x y tied. exact x y ((Equal-is (R x y)).0 tied) in
      same_answer _ _
      (any_kept p ks ls (λ x among. Contains-from_any equal x ls (sym (same x)
      ∙ list_any-from_Contains laws x ks among)))
      (any_kept p ls ks (λ x among. Contains-from_any equal x ks (same x ∙ list_any-from_Contains laws x ls among)))

  -- those keys have the members of the list
  pub keys_members : (q : K) (ks : List K)
      → list_any (eq_by_cmp R q) (finite.keys (finite.from_entries {R = R} (map (λ k. (k, tt {0})) ks)))
      ≡ list_any (eq_by_cmp R q) ks
  keys_members q ks =
      sym (finite.contains_key-keys (finite.from_entries {R = R} (marked ks)) q)
      ∙ ap is_some (finite.get-from_entries o (marked ks) q)
      ∙ is_found R q ks
