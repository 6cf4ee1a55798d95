-- A group's meaning, clause by clause.
use Rattle.std.proofs.lemmas.List.{drop_all, drop_more}
use Rattle.std.proofs.Common.{◌≡◌, ℕ, ◌+◌, ◌<◌, ◌≤◌, Bool, true, false, ◌&&◌, ◌||◌, List, [], ◌∷◌, map, length, drop}
use Rattle.std.proofs.Common.{get_or, refl, sym, ap, ◌∙◌}
use Rattle.std.specs.List.{list_any, list_all}
use Rattle.clip_grammar.specs.declared.query.Occur.{Occur}
use Rattle.clip_grammar.specs.declared.query.Occur.TheVariants.{Must, Should, MustNot}
use Rattle.clip_grammar.specs.declared.query.Query.{Query}
use Rattle.clip_meaning.specs.Steps.Tally.{group_with}
use Rattle.clip_grammar.specs.Tree.{clauses_of, tree_of}
use Rattle.clip_meaning.specs.Article.{Fields}
use Rattle.clip_meaning.specs.Meaning.{holds, verdicts, group_holds, meets_must, is_must, meets_should}

-- each clause with whether its child holds
abbrev pub verdicts_of : Fields → List (Occur × Query) → List (Occur × Bool)
verdicts_of a cs = map (λ c. (c.0, holds (tree_of c.1) a)) cs

pub must_true : (m s : Bool) (vs : List (Occur × Bool)) → group_with m s ((Must, true) ∷ vs) ≡ group_with true s vs
unfolding group_with
must_true true s vs = refl
must_true false s vs = refl

pub must_false : (m s : Bool) (vs : List (Occur × Bool)) → group_with m s ((Must, false) ∷ vs) ≡ false
unfolding group_with
must_false m s vs = refl

pub must_not_false : (m s : Bool) (vs : List (Occur × Bool)) → group_with m s ((MustNot, false) ∷ vs)
    ≡ group_with m s vs
unfolding group_with
must_not_false m s vs = refl

pub must_not_true : (m s : Bool) (vs : List (Occur × Bool)) → group_with m s ((MustNot, true) ∷ vs) ≡ false
unfolding group_with
must_not_true m s vs = at (list_all meets_must vs)
  where
    at : (b : Bool) → (b && false && ((m || list_any is_must vs) || (s || list_any meets_should vs))) ≡ false
    at true = refl
    at false = refl

pub should : (m s h : Bool) (vs : List (Occur × Bool)) → group_with m s ((Should, h) ∷ vs) ≡ group_with m (s || h) vs
unfolding group_with
should m true h vs = refl
should m false true vs = refl
should m false false vs = refl

pub group_end : (m s : Bool) → group_with m s [] ≡ (m || s)
unfolding group_with
group_end true true = refl
group_end true false = refl
group_end false true = refl
group_end false false = refl

-- the verdicts of a group's clauses
pub verdicts_map : (cs : List (Occur × Query)) (a : Fields)
    → verdicts (clauses_of (map (λ c. (c.0, tree_of c.1)) cs)) a ≡ verdicts_of a cs
verdicts_map [] a = refl
verdicts_map (c ∷ cs) a = ap (λ vs. (c.0, holds (tree_of c.1) a) ∷ vs) (verdicts_map cs a)

pub group_start : (cs : List (Occur × Query)) (a : Fields) → group_with false false (verdicts_of a cs)
    ≡ group_holds (verdicts (clauses_of (map (λ c. (c.0, tree_of c.1)) cs)) a)
unfolding group_with group_holds
group_start cs a = ap group_holds (sym (verdicts_map cs a))

-- all clauses are read
pub all_read : (m s : Bool) (a : Fields) (cs : List (Occur × Query)) (i : ℕ) (h : Bool) → length cs ≤ i
    → group_with m s (verdicts_of a (drop i cs)) ≡ h → (m || s) ≡ h
all_read m s a cs i h le e = sym (group_end m s) ∙ ap (λ x. group_with m s (verdicts_of a x)) (sym (drop_all i cs le))
    ∙ e

-- a clause is read
pub next_verdict : (a : Fields) (cs : List (Occur × Query)) (i : ℕ) (c : Occur × Query) → i < length cs
    → c ≡ get_or cs i c → verdicts_of a (drop i cs) ≡ (c.0, holds (tree_of c.1) a) ∷ verdicts_of a (drop (i + 1) cs)
next_verdict a cs i c lt is =
    ap (verdicts_of a) (drop_more cs i c lt)
    ∙ ap (λ (x : Occur × Query). (x.0, holds (tree_of x.1) a) ∷ verdicts_of a (drop (i + 1) cs)) (sym is)
