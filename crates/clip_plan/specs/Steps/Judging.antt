-- Judging a plan from front to back: what stands among the clauses of each group that is open.
use Rattle.std.specs.Prelude.{◌≡◌, ℕ, ◌+◌, max, Bool, true, false, not, cond, ◌&&◌, ◌||◌, List, [], ◌∷◌, ◌++◌, length}
use Rattle.std.specs.Prelude.{drop}
use Rattle.clip_grammar.specs.Tree.{Tree, Clauses}
use Rattle.clip_grammar.specs.declared.query.Occur.{Occur}
use Rattle.clip_grammar.specs.declared.query.Occur.TheVariants.{Must, Should, MustNot}
use Rattle.clip_meaning.specs.Article.{Fields}
use Rattle.clip_meaning.specs.Meaning.{holds, verdicts}
use Rattle.clip_extract.specs.Keys.{KeyValue}
use Rattle.clip_terms.specs.Terms.{term_at}
use Rattle.clip_terms.specs.Reading.{has_key, has_run}
use Rattle.clip_plan.specs.Plan.{Asks, Has, Run, Is, Mark, Leaf, Open, Close, named, group_marks}
use Rattle.clip_plan.specs.Steps.Plans.{mark_of}
use Rattle.clip_plan.specs.declared.step.Step.{Step}
use Rattle.clip_plan.specs.declared.judge.Tally.{Tally}

-- ---- a group's clauses so far

-- none, of a group that ends at a place
abbrev pub no_clauses : (end : ℕ) → Tally
no_clauses end = record { may_hold = true; is_met = false; end = end }

-- with one clause more, whose child holds or does not
abbrev pub counted : Tally → Occur → Bool → Tally
counted t Must held = record { may_hold = t.may_hold && held; is_met = true; end = t.end }
counted t Should held = record { may_hold = t.may_hold; is_met = t.is_met || held; end = t.end }
counted t MustNot held = record { may_hold = t.may_hold && not held; is_met = t.is_met; end = t.end }

-- with all these clauses more
abbrev pub counted_all : Tally → List (Occur × Bool) → Tally
counted_all t [] = t
counted_all t (v ∷ vs) = counted_all (counted t v.0 v.1) vs

-- a group of these clauses holds
abbrev pub tally_holds : Tally → Bool
tally_holds t = t.may_hold && t.is_met

-- whether its child holds changes nothing
abbrev pub is_needless : Tally → Occur → Bool
is_needless t Must = false
is_needless t Should = t.is_met
is_needless t MustNot = false

-- ---- leaves

-- what a leaf asks is so
abbrev pub leaf_holds : Fields → Asks KeyValue → Bool
leaf_holds fields (Has key) = has_key fields key
leaf_holds fields (Run keys) = has_run fields keys
leaf_holds fields (Is tree) = holds tree fields

-- what a mark asks is so; of one that is no leaf it always is
abbrev pub mark_holds : Fields → Mark KeyValue → Bool
mark_holds fields (Leaf occur asks) = leaf_holds fields asks
mark_holds fields (Open occur inside) = true
mark_holds fields (Close occur) = true

-- the mark that a step is, over keys
abbrev pub meant : (runs : List (List ℕ)) (queries : List Tree) (terms : List KeyValue) → Step → Mark KeyValue
meant runs queries terms step = named (term_at terms) (mark_of runs queries step)

-- ---- groups that are open

-- the tally of the group that was opened last, and those of the groups around it, the nearest first
abbrev pub Groups : Type 0
Groups = Tally × List Tally

-- after the mark of a place, where what it asks is so or not
abbrev pub marked : {K : Type 0} → (place : ℕ) → Mark K → Bool → Tally → List Tally → Groups
marked place (Leaf occur asks) held top around = (counted top occur held, around)
marked place (Open occur inside) held top around = (no_clauses (place + 1 + inside), top ∷ around)
marked place (Close occur) held top [] = (top, [])
marked place (Close occur) held top (next ∷ around) = (counted next occur (tally_holds top), around)

-- a leaf that may hold, and does not
abbrev pub is_absent : Fields → Mark KeyValue → Bool
is_absent fields (Leaf Must asks) = false
is_absent fields (Leaf Should asks) = not (leaf_holds fields asks)
is_absent fields (Leaf MustNot asks) = false
is_absent fields (Open occur inside) = false
is_absent fields (Close occur) = false

-- how many marks are passed at a mark: all of a clause that changes nothing
abbrev pub passed : {K : Type 0} → Tally → Mark K → ℕ
passed top (Leaf occur asks) = cond (is_needless top occur) 1 0
passed top (Open occur inside) = cond (is_needless top occur) (inside + 2) 0
passed top (Close occur) = 0

-- the place where judging goes on, where it came to this one: the group's end where the group may not hold
abbrev pub onward : Tally → (place : ℕ) → ℕ
onward top place = cond top.may_hold place (max place top.end)

-- ---- the marks that are left

-- They begin with clauses of the group that is open, and this is so of the marks behind these, of their place, and of
-- the tally with these.
pub record Left (Then : List (Mark KeyValue) → ℕ → Tally → Type 0) (fields : Fields) (marks : List (Mark KeyValue))
    (place : ℕ) (top : Tally) : Type 0 where
  pub clauses : Clauses
  pub others : List (Mark KeyValue)
  pub are : marks ≡ group_marks clauses ++ others
  pub end : Then others (place + length (group_marks clauses)) (counted_all top (verdicts clauses fields))

-- At these marks the group that is open ends, at the place that its tally has; behind its end those around it go on,
-- and in the end the outermost holds or does not.
abbrev pub Ends : Fields → (holds : Bool) → (around : List Tally) → List (Mark KeyValue) → (place : ℕ) → Tally → Type 0
Ends fields holds [] marks place top = (marks ≡ []) × (top.end ≡ place) × (tally_holds top ≡ holds)
Ends fields holds (next ∷ around) marks place top =
    (occur : Occur) × (others : List (Mark KeyValue)) × (marks ≡ Close occur ∷ others) × (top.end ≡ place)
    × Left (Ends fields holds around) fields others (place + 1) (counted next occur (tally_holds top))

-- From a place on, the marks of a plan lead to whether its query holds.
abbrev pub LeadTo : Fields → (holds : Bool) → List (Mark KeyValue) → (place : ℕ) → Tally → (around : List Tally)
    → Type 0
LeadTo fields holds marks place top around = Left (Ends fields holds around) fields (drop place marks) place top
