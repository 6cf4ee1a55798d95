-- Flags that are set now and were not when a merge was begun.
use Rattle.std.proofs.Common.{◌≡◌, ℕ, suc, ◌<◌, ◌≤◌, Bool, true, false, not, ◌&&◌, ◌||◌, List, [], ◌∷◌, length, get_or}
use Rattle.std.proofs.Common.{Option, Some, None, is_some, refl, sym, ap, ap₂, ◌∙◌, inl, inr, arith}
use Rattle.std.proofs.lemmas.Bool.{cases_lt, false≢true}
use Rattle.std.proofs.lemmas.List.{get_or-map, get_or_past, length-map}
use Rattle.std.proofs.lemmas.List.Folds.{list_all_at}
use Rattle.std.specs.List.{list_all}
use Rattle.std.specs.Prelude.{IfSome}
use Rattle.clip_pieces.specs.Marked.{is_lost}
use Rattle.clip_model.specs.History.{Registered}
use Rattle.clip_registry.specs.Steps.LiveFlags.{flags_of, stays}

-- a flag is lost where its entry does not stay
lost_not : (a b : Bool) → (a && not b) ≡ not (not a || b)
lost_not true true = refl
lost_not true false = refl
lost_not false b = refl

pub lost_entry : (is was : ℕ → Bool) (es : List Registered) (place : ℕ) (r : Registered) → place < length es
    → is_lost (flags_of is es) (flags_of was es) place ≡ not (stays is was (get_or es place r))
lost_entry is was es place r low =
    ap₂ (λ a b. a && not b) (get_or-map (λ (q : Registered). is q.seq) es place r false low)
    (get_or-map (λ (q : Registered). was q.seq) es place r false low)
    ∙ lost_not (is (get_or es place r).seq) (was (get_or es place r).seq)

fails_not : (b : Bool) → not b ≡ true → b ≡ false
fails_not true h = absurd (false≢true h)
fails_not false h = refl

passes_not : (b : Bool) → not b ≡ false → b ≡ true
passes_not true h = refl
passes_not false h = absurd (false≢true (sym h))

all_pass : (p : Registered → Bool) (es : List Registered)
    → ((k : ℕ) (r : Registered) → k < length es → p (get_or es k r) ≡ true)
    → list_all p es ≡ true
all_pass p [] each = refl
all_pass p (e ∷ es) each =
    ap₂ (λ a b. a && b) (each 0 e (omega arith)) (all_pass p es (λ k r low. each (suc k) r (omega arith)))

-- whether no flag is lost, by the first that is
pub misses_by : (is was : ℕ → Bool) (es : List Registered) (now begun : List Bool) (found : Option ℕ) (none : Bool)
    → now ≡ flags_of is es → begun ≡ flags_of was es → is_some found ≡ not none
    → IfSome found (λ place. is_lost now begun place ≡ true)
    → ((place : ℕ) → 0 ≤ place → IfSome found (λ next. place < next) → is_lost now begun place ≡ false)
    → none ≡ list_all (stays is was) es
misses_by is was es now begun None none here before at lost first =
    passes_not none (sym at)
    ∙ sym (all_pass (stays is was) es (λ k r low.
    passes_not (stays is was (get_or es k r))
    (sym (lost_entry is was es k r low) ∙ sym (λ i. is_lost (here i) (before i) k) ∙ first k (omega arith) tt)))
misses_by is was [] now begun (Some place) none here before at lost first =
    absurd (false≢true ((λ i. is_lost (sym here i) (sym before i) place) ∙ lost))
misses_by is was (e ∷ es) now begun (Some place) none here before at lost first =
    let all = e ∷ es in
    let known = (λ i. is_lost (sym here i) (sym before i) place) ∙ lost in
    elim (cases_lt place (length all)) [
      | inl low ↦
          fails_not none (sym at)
          ∙ sym (list_all_at (stays is was) all place e low
          (fails_not (stays is was (get_or all place e)) (sym (lost_entry is was all place e low) ∙ known)))
      | inr past ↦
          let long = length-map all (λ (q : Registered). is q.seq) in
          absurd (false≢true (sym (ap (λ b. b && not (get_or (flags_of was all) place false))
          (get_or_past (flags_of is all) place false (omega (arith, long)))) ∙ known))
    ]
