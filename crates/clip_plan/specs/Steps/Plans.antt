-- Plans as contracts see them, and what holds of each.
use Rattle.std.specs.Prelude.{◌≡◌, ℕ, ◌<◌, Bool, false, List, [], ◌∷◌, ◌++◌, map, length, unwrap_or, slice_get}
use Rattle.std.specs.List.{All}
use Rattle.std.specs.declared.vec.Vec.{Vec}
use Rattle.std.specs.declared.alloc.Global.{Global}
use Rattle.clip_grammar.specs.Tree.{Tree, tree_of}
use Rattle.clip_grammar.specs.declared.query.Occur.{Occur}
use Rattle.clip_grammar.specs.declared.query.Query.{Query}
use Rattle.clip_grammar.specs.declared.query.Query.TheVariants.{Group}
use Rattle.clip_extract.specs.Keys.{KeyValue}
use Rattle.clip_plan.specs.Plan.{Has, Run, Is, Mark, Leaf, Open, Close, decoded}
use Rattle.clip_plan.specs.Steps.Outlines.{may_be, outline}
use Rattle.clip_plan.specs.declared.step.Step.{Step}
use Rattle.clip_plan.specs.declared.step.Step.TheVariants as step
use Rattle.clip_plan.specs.declared.plans.Plans.TheInside.{Inside}

-- a step, with the run or the query of its place
abbrev pub mark_of : (runs : List (List ℕ)) (queries : List Tree) → Step → Mark ℕ
mark_of runs queries (step.Term occur n) = Leaf occur (Has n)
mark_of runs queries (step.Pair occur m n) = Leaf occur (Run (m ∷ n ∷ []))
mark_of runs queries (step.Phrase occur place) = Leaf occur (Run (unwrap_or (slice_get runs place) []))
mark_of runs queries (step.Query occur place) = Leaf occur (Is (unwrap_or (slice_get queries place) Tree.All))
mark_of runs queries (step.Open occur inside) = Open occur inside
mark_of runs queries (step.Close occur) = Close occur

abbrev pub marks_of : Inside → List (List (Mark ℕ))
marks_of plans = map (map (mark_of plans.runs (map tree_of plans.queries.items))) plans.steps

-- the step asks for a word that may be there
abbrev pub step_may_be_there : Step → Bool
step_may_be_there (step.Term occur n) = may_be occur
step_may_be_there (step.Pair occur m n) = false
step_may_be_there (step.Phrase occur place) = false
step_may_be_there (step.Query occur place) = false
step_may_be_there (step.Open occur inside) = false
step_may_be_there (step.Close occur) = false

-- a step's run or query is there, of this many
abbrev pub HasPlace : (runs queries : ℕ) → Step → Type 0
HasPlace runs queries (step.Term occur n) = Unit {0}
HasPlace runs queries (step.Pair occur m n) = Unit {0}
HasPlace runs queries (step.Phrase occur place) = place < runs
HasPlace runs queries (step.Query occur place) = place < queries
HasPlace runs queries (step.Open occur inside) = Unit {0}
HasPlace runs queries (step.Close occur) = Unit {0}

-- each step of each plan has its run or query
abbrev pub HavePlaces : Inside → Type 0
HavePlaces plans = All (All (HasPlace (length plans.runs) (length plans.queries.items))) plans.steps

-- ---- plans

-- each step has its run or query, and of each plan its outline is kept
abbrev pub AreWhole : Inside → Type 0
AreWhole plans = HavePlaces plans × (plans.outlines.items ≡ map outline (marks_of plans))

-- ---- adding

-- the new list begins with the old one
pub record Grows {A : Type 0} (old new : List A) : Type 0 where
  pub more : List A
  pub is : new ≡ old ++ more

-- Each step has its run or query, and decoded the steps are these marks.
pub record StandFor (terms : List KeyValue) (runs : List (List ℕ)) (queries : List Query) (steps : List Step)
    (marks : List (Mark KeyValue)) : Type 0 where
  pub places : All (HasPlace (length runs) (length queries)) steps
  pub decode : decoded terms (map (mark_of runs (map tree_of queries)) steps) ≡ marks

-- Behind the steps are added those of these marks, and of the runs and the queries there may be more.
pub record Adds (terms : List KeyValue) (runs : List (List ℕ)) (queries : List Query) (steps : List Step)
    (new_runs : List (List ℕ)) (new_queries : List Query) (new_steps : List Step) (more : List (Mark KeyValue)) : Type 0
  where
    pub runs_grow : Grows runs new_runs
    pub queries_grow : Grows queries new_queries
    pub added : List Step
    pub behind : new_steps ≡ steps ++ added
    pub stand : StandFor terms new_runs new_queries added more

-- the query is no group
abbrev pub IsNoGroup : Query → Type 0
IsNoGroup query = (clauses : Vec (Occur × Query) Global) → query ≡ Group clauses → ⊥
