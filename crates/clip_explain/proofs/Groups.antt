-- A group in the best case or the worst, clause by clause.
use Rattle.std.proofs.Common.{◌≡◌, Bool, true, false, ◌&&◌, ◌||◌, List, [], ◌∷◌, map}
use Rattle.std.proofs.Common.{refl, sym, ap}
use Rattle.std.specs.List.{list_any, list_all}
use Rattle.clip_grammar.specs.declared.query.Occur.{Occur}
use Rattle.clip_grammar.specs.declared.query.Occur.TheVariants.{Must, Should}
use Rattle.clip_grammar.specs.declared.query.Query.{Query}
use Rattle.clip_grammar.specs.Tree.{clauses_of, tree_of}
use Rattle.clip_meaning.specs.Meaning.{group_holds, meets_must, meets_must_not, is_must, meets_should}
use Rattle.clip_explain.specs.Certain.{for_child, holds_in, verdicts_in}

-- the group holds whose clauses to come are these, where a Must or a Should that holds stands before them or not
abbrev pub group_from : (enough : Bool) → List (Occur × Bool) → Bool
group_from enough vs =
    list_all meets_must vs && list_all meets_must_not vs
    && (enough || (list_any is_must vs || list_any meets_should vs))

pub should : (enough held : Bool) (vs : List (Occur × Bool))
    → group_from enough ((Should, held) ∷ vs) ≡ group_from (enough || held) vs
should true held vs = refl
should false false vs = refl
should false true vs = ap (λ b. list_all meets_must vs && list_all meets_must_not vs && b) (at (list_any is_must vs))
  where
    at : (b : Bool) → (b || true) ≡ true
    at true = refl
    at false = refl

-- each clause with whether its child holds
abbrev pub verdicts_of : (best : Bool) → List (Occur × Query) → List (Occur × Bool)
verdicts_of best cs = map (λ c. (c.0, holds_in (tree_of c.1) (for_child c.0 best))) cs

pub verdicts_map : (cs : List (Occur × Query)) (best : Bool)
    → verdicts_in (clauses_of (map (λ c. (c.0, tree_of c.1)) cs)) best ≡ verdicts_of best cs
verdicts_map [] best = refl
verdicts_map (c ∷ cs) best = ap (λ vs. (c.0, holds_in (tree_of c.1) (for_child c.0 best)) ∷ vs) (verdicts_map cs best)

pub group_start : (cs : List (Occur × Query)) (best : Bool)
    → group_from false (verdicts_of best cs)
    ≡ group_holds (verdicts_in (clauses_of (map (λ c. (c.0, tree_of c.1)) cs)) best)
unfolding group_holds
group_start cs best = ap group_holds (sym (verdicts_map cs best))
