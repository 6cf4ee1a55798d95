-- Numbers of which each is left once, as they are marked.
use Rattle.std.proofs.Common.{◌≡◌, ℕ, suc, ◌+◌, ◌<◌, ◌≤◌, All, Bool, true, false, ◌||◌, nat_eq, List, [], ◌∷◌, ◌++◌}
use Rattle.std.proofs.Common.{length, take, replicate, drop, set, get_or, refl, sym, ap, ap₂, ◌∙◌, subst, arith}
use Rattle.std.proofs.Common.{eq-eqb, ne_eqb, inl, inr}
use Rattle.std.specs.List.{list_any, IsDistinct}
use Rattle.std.proofs.lemmas.Bool.{cases_eq, false≢true}
use Rattle.std.proofs.lemmas.Cmp.{nat_eq_equiv}
use Rattle.std.proofs.lemmas.Grind.{drop_more_same}
use Rattle.std.proofs.lemmas.List.{drop-set-lt, drop_more, length-replicate, length-set, take_more_set, get_or_default}
use Rattle.std.proofs.lemmas.List.Folds.{list_any-append, list_any_at, list_any_more}
use Rattle.std.proofs.lemmas.Map.Keys.{IsDistinct-push}
use Rattle.std.proofs.lemmas.Option.{unwrap_or-slice_get}
use Rattle.clip_pieces.proofs.Both.{get_or_none}
use Rattle.clip_terms.specs.Steps.Numbers.{AreFlags, IsEachOnce}
use Rattle.clip_terms.proofs.ReadingOf.{flag_more, or_none}

-- Of the numbers `all` those before a place were gone through: `now` begins with each of them once, so many as are
-- left, and goes on behind the place as `all` does; and they are marked.
pub record IsUpTo (all now : List ℕ) (place left : ℕ) (marks : List Bool) (bound : ℕ) : Type 0 where
  pub whole : length now ≡ length all
  pub few : left ≤ place
  pub rest : drop place now ≡ drop place all
  pub long : length marks ≡ bound
  pub flags : AreFlags marks bound (take place all)
  pub each : IsEachOnce (take place all) (take left now)

module _ (all now : List ℕ) (place left : ℕ) (marks : List Bool) (bound number : ℕ)
    (before : IsUpTo all now place left marks bound) (inside : place < length now)
    (is : get_or now place number ≡ number)
    (low : All (λ n. n < bound) all) where
  within : place < length all
  within = let whole = before.whole in omega (arith, whole, inside)

  -- it is the number at the place of all
  next : get_or all place 0 ≡ number
  next =
      ap (λ ns. get_or ns 0 0)
      (sym (drop_more all place 0 within) ∙ sym before.rest ∙ drop_more now place number inside)
      ∙ is

  small : number < bound
  small = subst (λ n. n < bound) next (low place 0 within)

  here : list_any (nat_eq number) (take place all) ≡ get_or marks number false
  here = let long = before.long in
      sym (before.flags number small) ∙ unwrap_or-slice_get marks number true
      ∙ get_or_default marks number true false (omega (arith, long, small))

  one_more : (n : ℕ) → list_any (nat_eq n) (take (place + 1) all)
      ≡ (list_any (nat_eq n) (take place all) || nat_eq n number)
  one_more n = list_any_more (nat_eq n) all place 0 within
      ∙ ap (λ m. list_any (nat_eq n) (take place all) || nat_eq n m) next

  -- a number that is marked is left out
  pub known_again : get_or marks number false ≡ true → IsUpTo all now (place + 1) left marks bound
  known_again marked = record {
    whole = before.whole;
    few = let few = before.few in omega (arith, few);
    rest = drop_more_same now all place before.rest;
    long = before.long;
    flags = λ n lt. before.flags n lt ∙ sym (again n);
    each = record { same = λ n. before.each.same n ∙ sym (again n); once = before.each.once };
  }
    where
      there : (n : ℕ) → n ≡ number → list_any (nat_eq n) (take place all) ≡ true
      there n e = ap (λ k. list_any (nat_eq k) (take place all)) e ∙ here ∙ marked

      set_too : (b c : Bool) → b ≡ true → (b || c) ≡ b
      set_too true c e = refl
      set_too false c e = absurd (false≢true e)

      again : (n : ℕ) → list_any (nat_eq n) (take (place + 1) all) ≡ list_any (nat_eq n) (take place all)
      again n = one_more n ∙ (elim (cases_eq n number) [
        | inl e ↦ set_too (list_any (nat_eq n) (take place all)) (nat_eq n number) (there n e)
        | inr ne ↦
            ap (λ b. list_any (nat_eq n) (take place all) || b) (ne_eqb n number ne)
            ∙ or_none (list_any (nat_eq n) (take place all))
      ])

  -- another is marked, and put behind those that are left
  pub one_left : get_or marks number false ≡ false
      → IsUpTo all (set now left number) (place + 1) (left + 1) (set marks number true) bound
  one_left unmarked = record {
    whole = length-set now left number ∙ before.whole;
    few = let few = before.few in omega (arith, few);
    rest = let few = before.few in
        drop-set-lt (place + 1) now left number (omega (arith, few)) ∙ drop_more_same now all place before.rest;
    long = length-set marks number true ∙ before.long;
    flags = subst (λ m. AreFlags (set marks m true) bound (take (place + 1) all)) next
        (flag_more marks bound all place within before.long before.flags);
    each = record {
      same = λ n.
          ap (list_any (nat_eq n)) taken ∙ list_any-append (nat_eq n) (take left now) (number ∷ [])
          ∙ ap₂ (λ a b. a || b) (before.each.same n) (or_none (nat_eq n number)) ∙ sym (one_more n);
      once = subst (IsDistinct nat_eq) (sym taken)
          (IsDistinct-push nat_eq_equiv (take left now) number before.each.once
          (before.each.same number ∙ here ∙ unmarked));
    };
  }
    where
      taken : take (left + 1) (set now left number) ≡ take left now ++ number ∷ []
      taken = let few = before.few in take_more_set now left number (omega (arith, few, inside))

-- before the first place nothing is marked
pub none_yet : (all : List ℕ) (bound : ℕ) → IsUpTo all all 0 0 (replicate bound false) bound
unfolding IsDistinct
none_yet all bound = record {
  whole = refl;
  few = omega arith;
  rest = refl;
  long = length-replicate bound false;
  flags = λ n lt.
      unwrap_or-slice_get (replicate bound false) n true
      ∙ get_or_default (replicate bound false) n true false (omega (arith, lt, length-replicate bound false))
      ∙ get_or_none bound n;
  each = record { same = λ n. refl; once = tt };
}

-- ---- bounds

among_below : (bound n : ℕ) (xs : List ℕ) → All (λ m. m < bound) xs → list_any (nat_eq n) xs ≡ true → n < bound
among_below bound n [] low there = absurd (false≢true there)
among_below bound n (x ∷ xs) low there = elim (cases_eq n x) [
  | inl e ↦ let first = low 0 n (omega arith) in omega (arith, e, first)
  | inr ne ↦ among_below bound n xs (λ k d lt. low (suc k) d (omega (arith, lt)))
      (sym (ap (λ b. b || list_any (nat_eq n) xs) (ne_eqb n x ne)) ∙ there)
]

-- what is among numbers below a bound is below it
pub each_below : (bound : ℕ) (xs ys : List ℕ) → All (λ n. n < bound) xs
    → ((n : ℕ) → list_any (nat_eq n) ys ≡ list_any (nat_eq n) xs) → All (λ n. n < bound) ys
each_below bound xs ys low same = λ k d lt.
    let n = get_or ys k d in
    among_below bound n xs low (sym (same n) ∙ list_any_at (nat_eq n) ys k d lt (eq-eqb n n refl))
