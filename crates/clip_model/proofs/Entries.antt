-- The entries of a finite map, and what it gives.
use Rattle.std.proofs.Common.{◌≡◌, Bool, true, false, cond, List, [], ◌∷◌, refl, ap, ◌∙◌, Some, None, ◌||◌}
use Rattle.std.proofs.Math.Dec.{T}
use Rattle.std.specs.List.{list_any}
use Rattle.std.specs.Cmp.{IsTotalOrder}
use Rattle.std.specs.Ordering.{eq_by_cmp, is_eq}
use Rattle.std.specs.declared.cmp.Ordering.{Ordering}
use Rattle.std.specs.declared.cmp.Ordering.TheVariants.{Less, Equal}
use Rattle.std.specs.FinMap as finite
use Rattle.std.specs.FinMap.{get-entries, entries_sorted}
use Rattle.std.specs.FinMap.Entries.{find, is_sorted, below_all}
use Rattle.std.proofs.lemmas.Cmp.{eq_by_cmp_equiv}
use Rattle.clip_grammar.proofs.Booleans.{first, second}
use Rattle.clip_grammar.proofs.Orderings.{less, equal}

-- a member that passes a test, with its key
pub record Finds {K X : Type 0} (R : K → K → Ordering) (p : K × X → Bool) (es : List (K × X)) : Type 0 where
  pub key : K
  pub value : X
  pub found : find R key es ≡ Some value
  pub passes : p (key, value) ≡ true

module _ {K X : Type 0} {R : K → K → Ordering} (o : IsTotalOrder R) where
  -- what ties with a key below all is not found
  none_below : (k x : K) (es : List (K × X)) → R k x ≡ Equal → T (below_all R x es) → find R k es ≡ None
  none_below k x [] tied h = refl
  none_below k x (f ∷ es) tied h =
      let same : R k f.0 ≡ Less = o.congr k x f.0 tied ∙ less _ (first _ _ h) in
      ap (λ r. cond (is_eq r) (Some f.1) (find R k es)) same ∙ none_below k x es tied (second _ _ h)

  found_behind : (p : K × X → Bool) (e : K × X) (es : List (K × X)) → T (below_all R e.0 es) → Finds R p es
      → Finds R p (e ∷ es)
  found_behind p e es h at = record {
    key = at.key;
    value = at.value;
    found = elim (eq_by_cmp R at.key e.0) as (λ b. eq_by_cmp R at.key e.0 ≡ b → cond b (Some e.1) (find R at.key es)
        ≡ Some at.value) [
          | true ↦ λ b. let none = none_below at.key e.0 es (equal _ b) h in let is = at.found in cc
          | false ↦ λ b. at.found
        ] refl;
    passes = at.passes;
  }

  pub finds_member : (p : K × X → Bool) (es : List (K × X)) → T (is_sorted R es) → list_any p es ≡ true → Finds R p es
  finds_member p [] sorted h = cc
  finds_member p (e ∷ es) sorted h =
      elim (p e) as (λ b. p e ≡ b → (b || list_any p es) ≡ true → Finds R p (e ∷ es)) [
        | true ↦ λ is _. record {
          key = e.0;
          value = e.1;
          found = ap (λ b. cond b (Some e.1) (find R e.0 es)) ((eq_by_cmp_equiv o).refl e.0);
          passes = is;
        }
        | false ↦ λ is more. found_behind p e es (first _ _ sorted) (finds_member p es (second _ _ sorted) more)
      ] refl h

  -- an entry that passes a test is what its key gives
  pub entry_given : (p : K × X → Bool) (m : finite.FinMap R X) → list_any p (finite.entries m) ≡ true
      → (k : K) × (v : X) × (finite.get m k ≡ Some v) × (p (k, v) ≡ true)
  entry_given p m h =
      let at = finds_member p (finite.entries m) (entries_sorted m) h in
      (at.key, at.value, get-entries m at.key ∙ at.found, at.passes)
