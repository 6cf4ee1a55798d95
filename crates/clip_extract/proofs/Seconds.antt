-- The heaviest of a list and the heaviest of the others, found in one go.
use Rattle.std.proofs.Common.{◌≡◌, ℕ, ◌<◌, ◌≤◌, Bool, true, false, ◌||◌, cond, ltb, List, [], ◌∷◌, fold, length}
use Rattle.std.proofs.Common.{drop, Option, Some, None, Vec, Global, refl, sym, ap, ◌∙◌, arith}
use Rattle.std.specs.List.{list_any}
use Rattle.std.proofs.lemmas.List.{drop_all}
use Rattle.std.proofs.lemmas.Bool.{ltb-true, ltb-false}
use Rattle.std.proofs.lemmas.Bool.Decides.{nat_tests}
use Rattle.clip_grammar.specs.declared.query.Occur.{Occur}
use Rattle.clip_grammar.specs.declared.query.Query.{Query}
use Rattle.clip_grammar.specs.declared.query.Query.TheViews.{Group}
use Rattle.clip_grammar.specs.Tree.{tree_of}
use Rattle.clip_grammar.proofs.Trees.{tree_of_group}
use Rattle.clip_extract.specs.Extraction.{Extracted, heavier, heaviest, musts, without_heaviest, second_found}
use Rattle.clip_extract.proofs.Groups.{extracts_of, extracts_map}
use Rattle.clip_extract.specs.Steps.Groups.{go_on}
use Rattle.clip_extract.specs.Steps.Seconds.{Ranked, heavier_of, next_ranked}

abbrev outweighed : Extracted → List Extracted → Bool
outweighed e es = list_any (λ f. ltb e.weight f.weight) es

-- what stands second weighs no more
abbrev IsBelow : Option Extracted → Extracted → Type 0
IsBelow None best = Unit {0}
IsBelow (Some e) best = e.weight ≤ best.weight

below_still : (second : Option Extracted) (best e : Extracted) → IsBelow second best → e.weight ≤ best.weight
    → IsBelow (Some (heavier_of second e)) best
below_still None best e below le = le
below_still (Some s) best e below le =
    elim (ltb s.weight e.weight) as (λ t. (cond t e s).weight ≤ best.weight) [ true ↦ le | false ↦ below ]

heaviest_with : (second : Option Extracted) (e : Extracted) (es : List Extracted)
    → go_on heaviest heavier second (e ∷ es) ≡ go_on heaviest heavier (Some (heavier_of second e)) es
heaviest_with None e es = refl
heaviest_with (Some s) e es = refl

-- what outweighs one outweighs the lighter
outweighs_lighter : (e best : Extracted) (es : List Extracted) → e.weight ≤ best.weight → outweighed best es ≡ true
    → outweighed e es ≡ true
outweighs_lighter e best [] le some = some
outweighs_lighter e best (f ∷ es) le some =
    let step : ltb best.weight f.weight ≡ true → ltb e.weight f.weight ≡ true = λ h. grind (arith, nat_tests) in
    elim (ltb best.weight f.weight) as (λ t. ltb best.weight f.weight ≡ t → (t || outweighed best es) ≡ true
    → (ltb e.weight f.weight || outweighed e es) ≡ true) [
      | true ↦ λ h some. ap (λ t. t || outweighed e es) (step h)
      | false ↦ λ h some. grind (arith, nat_tests, outweighs_lighter e best es le some)
    ] refl some

-- after the first
second_of : (best : Extracted) (second : Option Extracted) (es : List Extracted) → IsBelow second best
    → (fold next_ranked (Some best, second) es).1
    ≡ cond (outweighed best es) (heaviest (best ∷ without_heaviest es)) (go_on heaviest heavier second es)
second_of best None [] below = refl
second_of best (Some s) [] below = refl
second_of best second (e ∷ es) below =
    elim (ltb best.weight e.weight) as (λ t. ltb best.weight e.weight ≡ t
    → (fold next_ranked (cond t (Some e, Some best) (Some best, Some (heavier_of second e))) es).1
    ≡ cond (t || outweighed best es) (heaviest (best ∷ without_heaviest (e ∷ es)))
    (go_on heaviest heavier second (e ∷ es))) [
      | true ↦ λ h. let lt : best.weight < e.weight = ltb-true best.weight e.weight h in
          second_of e (Some best) es (omega arith) ∙ behind h (outweighed e es)
      | false ↦ λ h. let le : e.weight ≤ best.weight = ltb-false best.weight e.weight h in
          second_of best (Some (heavier_of second e)) es (below_still second best e below le)
          ∙ beside h le (outweighed best es) refl
    ] refl
  where
    behind : ltb best.weight e.weight ≡ true → (t : Bool)
        → cond t (heaviest (e ∷ without_heaviest es)) (Some (fold heavier best es))
        ≡ heaviest (best ∷ cond t (e ∷ without_heaviest es) es)
    behind h true = ap (λ b. heaviest (cond b e best ∷ without_heaviest es)) (sym h)
    behind h false = refl

    beside : ltb best.weight e.weight ≡ false → e.weight ≤ best.weight → (t : Bool) → outweighed best es ≡ t
        → cond t (heaviest (best ∷ without_heaviest es)) (go_on heaviest heavier (Some (heavier_of second e)) es)
        ≡ cond t (heaviest (best ∷ without_heaviest (e ∷ es))) (go_on heaviest heavier second (e ∷ es))
    beside h le true some =
        ap (λ b. heaviest (cond b e best ∷ without_heaviest es)) (sym h)
        ∙ ap (λ b. heaviest (best ∷ cond b (e ∷ without_heaviest es) es)) (sym (outweighs_lighter e best es le some))
    beside h le false none = sym (heaviest_with second e es)

-- of all
found_second : (es : List Extracted) → (fold next_ranked (None, None) es).1 ≡ heaviest (without_heaviest es)
found_second [] = refl
found_second (e ∷ es) = second_of e None es tt ∙ at (outweighed e es)
  where
    at : (t : Bool) → cond t (heaviest (e ∷ without_heaviest es)) (heaviest es)
        ≡ heaviest (cond t (e ∷ without_heaviest es) es)
    at true = refl
    at false = refl

-- once all clauses of a group are read, what stands second is what is found
pub second_is : (q : Query) (v : Vec (Occur × Query) Global) (cs : List (Occur × Query)) (i : ℕ) (r : Ranked)
    → q ≡ Group v → cs ≡ v.items → length cs ≤ i
    → fold next_ranked r (musts (extracts_of (drop i cs))) ≡ fold next_ranked (None, None) (musts (extracts_of cs))
    → second_found (tree_of q) ≡ r.1
second_is q v cs i r group whole end is =
    ap (λ q. second_found (tree_of q)) group
    ∙ ap second_found (tree_of_group v)
    ∙ ap (λ es. heaviest (without_heaviest (musts es))) (extracts_map v.items ∙ ap extracts_of (sym whole))
    ∙ sym (found_second (musts (extracts_of cs)))
    ∙ ap (λ (p : Ranked). p.1) (sym is ∙ ap (λ xs. fold next_ranked r (musts (extracts_of xs))) (drop_all i cs end))
