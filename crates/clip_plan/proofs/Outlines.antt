-- What a plan's outline says of an article is so.
use Rattle.std.proofs.Common.{◌≡◌, ℕ, zero, suc, ◌<◌, ◌≤◌, Bool, true, false, ◌&&◌, ◌||◌, ◌==◌, cond, List, [], ◌∷◌}
use Rattle.std.proofs.Common.{◌++◌}
use Rattle.std.proofs.Common.{map, length, get_or, unwrap_or, refl, sym, ap, ap₂, ◌∙◌, subst, arith}
use Rattle.std.specs.Prelude.{Option, Some, None, IfSome, slice_get}
use Rattle.std.specs.List.{list_all}
use Rattle.std.proofs.lemmas.Bool.{eqb-true, false≢true}
use Rattle.std.proofs.lemmas.List.{map_push}
use Rattle.clip_grammar.specs.Tree.{Tree}
use Rattle.clip_grammar.specs.declared.query.Occur.TheVariants.{Must, Should, MustNot}
use Rattle.clip_grammar.specs.declared.query.Query.{Query}
use Rattle.clip_meaning.specs.Article.{Fields}
use Rattle.clip_meaning.specs.Meaning.{holds}
use Rattle.clip_extract.specs.Covering.{article_keys}
use Rattle.clip_extract.specs.Extraction.{query_keys}
use Rattle.clip_extract.specs.Keys.{KeyValue, share}
use Rattle.clip_terms.specs.Reading.{has_key, has_run}
use Rattle.clip_terms.specs.Terms.{term_at}
use Rattle.clip_terms.proofs.Runs.{lacks}
use Rattle.clip_plan.specs.Plan.{Has, Run, Is, Mark, Leaf, Open, Close, plan_of, decoded}
use Rattle.clip_plan.specs.Steps.Outlines.{may_be_there, run_needs, run_alone, word_or_run, of_first, of_one, of_two}
use Rattle.clip_plan.specs.Steps.Outlines.{of_marks, outline, may_hold_by, settled_by}
use Rattle.clip_plan.specs.Steps.Plans.{mark_of, step_may_be_there, Grows}
use Rattle.clip_plan.specs.declared.outline.Outline.{Outline}
use Rattle.clip_plan.specs.declared.outline.Outline.TheVariants.{Unknown, AnyKey, NeedsEither}
use Rattle.clip_plan.specs.declared.step.Step.{Step}
use Rattle.clip_plan.specs.declared.step.Step.TheVariants as step
use Rattle.clip_plan.proofs.Judging.{first_fails, one_judged, two_judged}
use Rattle.clip_plan.proofs.Disjunctions.{marks_by_key}
use Rattle.clip_plan.proofs.Standing.{AllPlaced, marked, plans_kept}

-- ---- steps

pub one_mark : (f : Step → Mark ℕ) (steps : List Step) (d : Step) → 1 ≤ length steps → length steps < 2
    → of_one (f (get_or steps 0 d)) ≡ of_marks (map f steps)
one_mark f [] d long short = absurd (omega arith)
one_mark f (s ∷ []) d long short = refl
one_mark f (s ∷ t ∷ steps) d long short = absurd (omega arith)

pub two_marks : (f : Step → Mark ℕ) (steps : List Step) (d e : Step) → 2 ≤ length steps → length steps < 3
    → of_two (f (get_or steps 0 d)) (f (get_or steps 1 e)) ≡ of_marks (map f steps)
two_marks f [] d e long short = absurd (omega arith)
two_marks f (s ∷ []) d e long short = absurd (omega arith)
two_marks f (s ∷ t ∷ []) d e long short = refl
two_marks f (s ∷ t ∷ u ∷ steps) d e long short = absurd (omega arith)

pub first_mark : (f : Step → Mark ℕ) (steps : List Step) (d : Step) → 3 ≤ length steps
    → of_first (f (get_or steps 0 d)) ≡ of_marks (map f steps)
first_mark f [] d long = absurd (omega arith)
first_mark f (s ∷ []) d long = absurd (omega arith)
first_mark f (s ∷ t ∷ []) d long = absurd (omega arith)
first_mark f (s ∷ t ∷ u ∷ steps) d long = refl

-- a word or a run of three words and more
pub longer_run : (word : ℕ) (run : List ℕ) → 3 ≤ length run
    → NeedsEither word (get_or run 1 0) (get_or run 2 0) ≡ word_or_run word run
longer_run word [] long = absurd (omega arith)
longer_run word (a ∷ []) long = absurd (omega arith)
longer_run word (a ∷ b ∷ []) long = absurd (omega arith)
longer_run word (a ∷ b ∷ c ∷ others) long = refl

module _ (runs : List (List ℕ)) (queries : List Tree) where
  step_may : (s : Step) → step_may_be_there s ≡ may_be_there (mark_of runs queries s)
  step_may (step.Term occur n) = refl
  step_may (step.Pair occur m n) = refl
  step_may (step.Phrase occur place) = refl
  step_may (step.Query occur place) = refl
  step_may (step.Open occur inside) = refl
  step_may (step.Close occur) = refl

  steps_may : (steps : List Step) → list_all step_may_be_there steps
      ≡ list_all may_be_there (map (mark_of runs queries) steps)
  steps_may [] = refl
  steps_may (s ∷ steps) =
      ap (λ b. b && list_all step_may_be_there steps) (step_may s)
      ∙ ap (λ b. may_be_there (mark_of runs queries s) && b) (steps_may steps)

-- a plan of no steps
pub of_nothing : (f : Step → Mark ℕ) (steps : List Step) → (length steps == 0) ≡ true
    → Unknown ≡ outline (map f steps)
of_nothing f [] none = refl
of_nothing f (s ∷ steps) none =
    let no_step : suc (length steps) ≡ 0 = eqb-true _ _ none in absurd (omega (arith, no_step))

-- a plan of words that may be there
pub of_choices : (runs : List (List ℕ)) (queries : List Tree) (steps : List Step) → (length steps == 0) ≡ false
    → list_all step_may_be_there steps ≡ true → AnyKey ≡ outline (map (mark_of runs queries) steps)
of_choices runs queries [] some all = absurd (false≢true (sym some))
of_choices runs queries (s ∷ steps) some all =
    ap (λ b. cond b AnyKey (of_marks (map (mark_of runs queries) (s ∷ steps))))
    (sym all ∙ steps_may runs queries (s ∷ steps))

-- another plan
pub of_others : (runs : List (List ℕ)) (queries : List Tree) (steps : List Step) → (length steps == 0) ≡ false
    → list_all step_may_be_there steps ≡ false
    → of_marks (map (mark_of runs queries) steps) ≡ outline (map (mark_of runs queries) steps)
of_others runs queries [] some all = refl
of_others runs queries (s ∷ steps) some all =
    ap (λ b. cond b AnyKey (of_marks (map (mark_of runs queries) (s ∷ steps))))
    (sym all ∙ steps_may runs queries (s ∷ steps))

-- one plan more
pub outline_pushed : (f : List Step → List (Mark ℕ)) (plans new : List (List Step)) (steps : List Step)
    (outlines more : List Outline) (o : Outline) → new ≡ plans ++ steps ∷ [] → more ≡ outlines ++ o ∷ []
    → o ≡ outline (f steps) → outlines ≡ map outline (map f plans) → more ≡ map outline (map f new)
outline_pushed f plans new steps outlines more o longer added is kept =
    added ∙ ap₂ (λ os (p : Outline). os ++ p ∷ []) kept is ∙ sym (map_push outline (map f plans) (f steps))
    ∙ ap (map outline) (sym (map_push f plans steps)) ∙ ap (λ ps. map outline (map f ps)) (sym longer)

-- of plans whose runs and queries grow
pub outlines_stay : {runs new_runs : List (List ℕ)} {queries new_queries : List Query} (plans : List (List Step))
    (outlines : List Outline) → Grows runs new_runs → Grows queries new_queries → AllPlaced runs queries plans
    → outlines ≡ map outline (marked runs queries plans) → outlines ≡ map outline (marked new_runs new_queries plans)
outlines_stay plans outlines g a h kept = kept ∙ ap (map outline) (sym (plans_kept plans g a h))

-- ---- words that lack

thrice : (b : Bool) → ((b && b) && b) ≡ b
thrice true = refl
thrice false = refl

twice_last : (a b : Bool) → ((a && b) && b) ≡ (a && (b && true))
twice_last true true = refl
twice_last true false = refl
twice_last false b = refl

two_lack : (a b : Bool) → (a && b) ≡ false → (a && (b && true)) ≡ false
two_lack true true h = h
two_lack true false h = refl
two_lack false b h = refl

three_lack : (a b c rest : Bool) → ((a && b) && c) ≡ false → (a && (b && (c && rest))) ≡ false
three_lack true true true rest h = absurd (false≢true (sym h))
three_lack true true false rest h = refl
three_lack true false c rest h = refl
three_lack false b c rest h = refl

-- of a run its first word may be there
last_lack : (a b c rest : Bool) → (b && c) ≡ false → (a && (b && (c && rest))) ≡ false
last_lack false b c rest h = refl
last_lack true true true rest h = absurd (false≢true (sym h))
last_lack true true false rest h = refl
last_lack true false c rest h = refl

neither : (w a run : Bool) → (w || a) ≡ false → (a ≡ false → run ≡ false) → (w || run) ≡ false
neither true a run h f = h
neither false a run h f = f h

both_musts : (a b : Bool) → ((a && b) && b) ≡ ((a && b) && true)
both_musts true true = refl
both_musts true false = refl
both_musts false b = refl

module _ (terms : List KeyValue) (fields : Fields) where
  abbrev had : ℕ → Bool
  had n = has_key fields (term_at terms n)

  abbrev stand : ℕ → ℕ → Bool
  stand m n = has_run fields (term_at terms m ∷ term_at terms n ∷ [])

  run_lacks : (ns : List ℕ) → may_hold_by had (run_needs ns) ≡ false → has_run fields (map (term_at terms) ns) ≡ false
  run_lacks [] fails = absurd (false≢true (sym fails))
  run_lacks (a ∷ []) fails = absurd (false≢true (sym fails))
  run_lacks (a ∷ b ∷ []) fails = lacks fields (term_at terms a ∷ term_at terms b ∷ [])
      (sym (twice_last (had a) (had b)) ∙ fails)
  run_lacks (a ∷ b ∷ c ∷ others) fails =
      lacks fields (map (term_at terms) (a ∷ b ∷ c ∷ others)) (three_lack (had a) (had b) (had c)
      (list_all (has_key fields) (map (term_at terms) others)) fails)

  alone_lacks : (ns : List ℕ) → may_hold_by had (run_alone ns) ≡ false → has_run fields (map (term_at terms) ns) ≡ false
  alone_lacks [] fails = absurd (false≢true (sym fails))
  alone_lacks (a ∷ []) fails = absurd (false≢true (sym fails))
  alone_lacks (a ∷ b ∷ []) fails = lacks fields (term_at terms a ∷ term_at terms b ∷ [])
      (two_lack (had a) (had b) fails)
  alone_lacks (a ∷ b ∷ c ∷ others) fails = run_lacks (a ∷ b ∷ c ∷ others) fails

  either_lacks : (word : ℕ) (ns : List ℕ) → may_hold_by had (word_or_run word ns) ≡ false
      → (had word || has_run fields (map (term_at terms) ns)) ≡ false
  either_lacks word [] fails = absurd (false≢true (sym fails))
  either_lacks word (a ∷ []) fails = absurd (false≢true (sym fails))
  either_lacks word (a ∷ b ∷ []) fails =
      neither (had word) (had a && had b) (stand a b) fails
      (λ h. lacks fields (term_at terms a ∷ term_at terms b ∷ []) (two_lack (had a) (had b) h))
  either_lacks word (a ∷ b ∷ c ∷ others) fails =
      let run = map (term_at terms) (a ∷ b ∷ c ∷ others) in
      neither (had word) (had b && had c) (has_run fields run) fails
      (λ h. lacks fields run (last_lack (had a) (had b) (had c)
      (list_all (has_key fields) (map (term_at terms) others)) h))

  module _ (tree : Tree) where
    -- ---- what rules a query out

    first_rules_out : (m : Mark ℕ) (marks : List (Mark ℕ)) → decoded terms (m ∷ marks) ≡ plan_of tree
        → may_hold_by had (of_first m) ≡ false → holds tree fields ≡ false
    first_rules_out (Leaf Must (Has n)) marks plan fails =
        first_fails fields tree (Has (term_at terms n)) (decoded terms marks) (sym (thrice (had n)) ∙ fails) plan
    first_rules_out (Leaf Must (Run ns)) marks plan fails =
        first_fails fields tree (Run (map (term_at terms) ns)) (decoded terms marks) (run_lacks ns fails) plan
    first_rules_out (Leaf Must (Is t)) marks plan fails = absurd (false≢true (sym fails))
    first_rules_out (Leaf Should asks) marks plan fails = absurd (false≢true (sym fails))
    first_rules_out (Leaf MustNot asks) marks plan fails = absurd (false≢true (sym fails))
    first_rules_out (Open occur inside) marks plan fails = absurd (false≢true (sym fails))
    first_rules_out (Close occur) marks plan fails = absurd (false≢true (sym fails))

    one_rules_out : (m : Mark ℕ) → decoded terms (m ∷ []) ≡ plan_of tree
        → may_hold_by had (of_one m) ≡ false → holds tree fields ≡ false
    one_rules_out (Leaf Must (Has n)) plan fails =
        first_fails fields tree (Has (term_at terms n)) [] (sym (thrice (had n)) ∙ fails) plan
    one_rules_out (Leaf Must (Run ns)) plan fails =
        first_fails fields tree (Run (map (term_at terms) ns)) [] (alone_lacks ns fails) plan
    one_rules_out (Leaf Must (Is t)) plan fails = absurd (false≢true (sym fails))
    one_rules_out (Leaf Should asks) plan fails = absurd (false≢true (sym fails))
    one_rules_out (Leaf MustNot asks) plan fails = absurd (false≢true (sym fails))
    one_rules_out (Open occur inside) plan fails = absurd (false≢true (sym fails))
    one_rules_out (Close occur) plan fails = absurd (false≢true (sym fails))

    two_rule_out : (m n : Mark ℕ) → decoded terms (m ∷ n ∷ []) ≡ plan_of tree
        → may_hold_by had (of_two m n) ≡ false → holds tree fields ≡ false
    two_rule_out (Leaf Must (Has m)) (Leaf Must (Has n)) plan fails =
        sym (two_judged fields tree Must Must (Has (term_at terms m)) (Has (term_at terms n)) plan)
        ∙ sym (both_musts (had m) (had n)) ∙ fails
    two_rule_out (Leaf Should (Has word)) (Leaf Should (Run ns)) plan fails =
        sym (two_judged fields tree Should Should (Has (term_at terms word)) (Run (map (term_at terms) ns)) plan)
        ∙ either_lacks word ns fails
    two_rule_out m n plan fails = first_rules_out m (n ∷ []) plan fails

    marks_rule_out : (marks : List (Mark ℕ)) → decoded terms marks ≡ plan_of tree
        → may_hold_by had (of_marks marks) ≡ false → holds tree fields ≡ false
    marks_rule_out [] plan fails = absurd (false≢true (sym fails))
    marks_rule_out (m ∷ []) plan fails = one_rules_out m plan fails
    marks_rule_out (m ∷ n ∷ []) plan fails = two_rule_out m n plan fails
    marks_rule_out (m ∷ n ∷ o ∷ marks) plan fails = first_rules_out m (n ∷ o ∷ marks) plan fails

    not_any : (all : Bool) (o : Outline) → may_hold_by had (cond all AnyKey o) ≡ false → may_hold_by had o ≡ false
    not_any true o fails = absurd (false≢true (sym fails))
    not_any false o fails = fails

    rules_out : (marks : List (Mark ℕ)) → decoded terms marks ≡ plan_of tree
        → may_hold_by had (outline marks) ≡ false → holds tree fields ≡ false
    rules_out [] plan fails = absurd (false≢true (sym fails))
    rules_out (m ∷ marks) plan fails =
        marks_rule_out (m ∷ marks) plan
        (not_any (list_all may_be_there (m ∷ marks)) (of_marks (m ∷ marks)) fails)

    -- ---- what settles it

    abbrev Settles : (shares : Bool) → Outline → Type 0
    Settles shares o = IfSome (settled_by had stand shares o) (λ held. held ≡ holds tree fields)

    run_settles : (shares : Bool) (ns : List ℕ) → Settles shares (run_needs ns)
    run_settles shares [] = tt
    run_settles shares (a ∷ []) = tt
    run_settles shares (a ∷ b ∷ []) = tt
    run_settles shares (a ∷ b ∷ c ∷ others) = tt

    first_settles : (shares : Bool) (m : Mark ℕ) → Settles shares (of_first m)
    first_settles shares (Leaf Must (Has n)) = tt
    first_settles shares (Leaf Must (Run ns)) = run_settles shares ns
    first_settles shares (Leaf Must (Is t)) = tt
    first_settles shares (Leaf Should asks) = tt
    first_settles shares (Leaf MustNot asks) = tt
    first_settles shares (Open occur inside) = tt
    first_settles shares (Close occur) = tt

    alone_settles : (shares : Bool) (ns : List ℕ) → decoded terms (Leaf Must (Run ns) ∷ []) ≡ plan_of tree
        → Settles shares (run_alone ns)
    alone_settles shares [] plan = tt
    alone_settles shares (a ∷ []) plan = tt
    alone_settles shares (a ∷ b ∷ []) plan =
        one_judged fields tree (Run (term_at terms a ∷ term_at terms b ∷ [])) plan
    alone_settles shares (a ∷ b ∷ c ∷ others) plan = tt

    one_settles : (shares : Bool) (m : Mark ℕ) → decoded terms (m ∷ []) ≡ plan_of tree → Settles shares (of_one m)
    one_settles shares (Leaf Must (Has n)) plan =
        thrice (had n) ∙ one_judged fields tree (Has (term_at terms n)) plan
    one_settles shares (Leaf Must (Run ns)) plan = alone_settles shares ns plan
    one_settles shares (Leaf Must (Is t)) plan = tt
    one_settles shares (Leaf Should asks) plan = tt
    one_settles shares (Leaf MustNot asks) plan = tt
    one_settles shares (Open occur inside) plan = tt
    one_settles shares (Close occur) plan = tt

    either_settles : (shares : Bool) (word : ℕ) (ns : List ℕ)
        → decoded terms (Leaf Should (Has word) ∷ Leaf Should (Run ns) ∷ []) ≡ plan_of tree
        → Settles shares (word_or_run word ns)
    either_settles shares word [] plan = tt
    either_settles shares word (a ∷ []) plan = tt
    either_settles shares word (a ∷ b ∷ []) plan =
        two_judged fields tree Should Should (Has (term_at terms word))
        (Run (term_at terms a ∷ term_at terms b ∷ [])) plan
    either_settles shares word (a ∷ b ∷ c ∷ others) plan = tt

    two_settle : (shares : Bool) (m n : Mark ℕ) → decoded terms (m ∷ n ∷ []) ≡ plan_of tree
        → Settles shares (of_two m n)
    two_settle shares (Leaf Must (Has m)) (Leaf Must (Has n)) plan =
        both_musts (had m) (had n)
        ∙ two_judged fields tree Must Must (Has (term_at terms m)) (Has (term_at terms n)) plan
    two_settle shares (Leaf Should (Has word)) (Leaf Should (Run ns)) plan = either_settles shares word ns plan
    two_settle shares m n plan = first_settles shares m

    marks_settle : (shares : Bool) (marks : List (Mark ℕ)) → decoded terms marks ≡ plan_of tree
        → Settles shares (of_marks marks)
    marks_settle shares [] plan = tt
    marks_settle shares (m ∷ []) plan = one_settles shares m plan
    marks_settle shares (m ∷ n ∷ []) plan = two_settle shares m n plan
    marks_settle shares (m ∷ n ∷ o ∷ marks) plan = first_settles shares m

    abbrev Shared : Type 0
    Shared = share (query_keys tree) (article_keys fields) ≡ true

    by_a_key : (shares : Bool) → (shares ≡ true → Shared) → (Shared → holds tree fields ≡ true)
        → Settles shares AnyKey
    by_a_key true shared f = sym (f (shared refl))
    by_a_key false shared f = tt

    by_kind : (shares all : Bool) (o : Outline) → (all ≡ true → Settles shares AnyKey) → Settles shares o
        → Settles shares (cond all AnyKey o)
    by_kind shares true o f g = f refl
    by_kind shares false o f g = g

    settles : (shares : Bool) (marks : List (Mark ℕ)) → decoded terms marks ≡ plan_of tree
        → (shares ≡ true → Shared) → Settles shares (outline marks)
    settles shares [] plan shared = tt
    settles shares (m ∷ marks) plan shared =
        by_kind shares (list_all may_be_there (m ∷ marks)) (of_marks (m ∷ marks))
        (λ all. by_a_key shares shared (marks_by_key terms fields tree m marks all plan))
        (marks_settle shares (m ∷ marks) plan)

-- ---- plans

-- the outline that is kept of a plan
outline_kept : (plans : List (List (Mark ℕ))) (place : ℕ) (o : Outline) → place < length (map outline plans)
    → get_or (map outline plans) place o ≡ outline (unwrap_or (slice_get plans place) [])
outline_kept [] place o inside = absurd (omega arith)
outline_kept (marks ∷ plans) zero o inside = refl
outline_kept (marks ∷ plans) (suc place) o inside = outline_kept plans place o (omega arith)

-- It is kept at the place of the plan.
pub record IsKept (plans : List (List (Mark ℕ))) (outlines : List Outline) (place : ℕ) (o : Outline) : Type 0 where
  pub kept : outlines ≡ map outline plans
  pub inside : place < length outlines
  pub is : o ≡ get_or outlines place o

outline_at : (plans : List (List (Mark ℕ))) (outlines : List Outline) (place : ℕ) (o : Outline)
    → IsKept plans outlines place o → o ≡ outline (unwrap_or (slice_get plans place) [])
outline_at plans outlines place o here =
    here.is ∙ ap (λ os. get_or os place o) here.kept
    ∙ outline_kept plans place o (subst (λ (os : List Outline). place < length os) here.kept here.inside)

-- a query that its outline rules out does not hold
pub ruled_out_at : (terms : List KeyValue) (fields : Fields) (plans : List (List (Mark ℕ)))
    (outlines : List Outline) (place : ℕ) (o : Outline) (tree : Tree) → IsKept plans outlines place o
    → decoded terms (unwrap_or (slice_get plans place) []) ≡ plan_of tree
    → may_hold_by (λ n. has_key fields (term_at terms n)) o ≡ false → holds tree fields ≡ false
ruled_out_at terms fields plans outlines place o tree here plan fails =
    rules_out terms fields tree (unwrap_or (slice_get plans place) []) plan
    (ap (may_hold_by (λ n. has_key fields (term_at terms n))) (sym (outline_at plans outlines place o here)) ∙ fails)

each_tree : (P : Tree → Bool → Type 0) (r : Option Bool) → ((tree : Tree) → IfSome r (P tree))
    → IfSome r (λ held. (tree : Tree) → P tree held)
each_tree P None f = tt
each_tree P (Some held) f = f

under : (P : Type 0) (Q : Bool → Type 0) (r : Option Bool) → (P → IfSome r Q) → IfSome r (λ held. P → Q held)
under P Q None f = tt
under P Q (Some held) f = f

-- what its outline settles is so
pub settled_at : (terms : List KeyValue) (fields : Fields) (plans : List (List (Mark ℕ)))
    (outlines : List Outline) (place : ℕ) (o : Outline) (shares : Bool) (r : Option Bool)
    → IsKept plans outlines place o
    → r ≡ settled_by (λ n. has_key fields (term_at terms n))
    (λ m n. has_run fields (term_at terms m ∷ term_at terms n ∷ [])) shares o
    → IfSome r (λ held. (tree : Tree) → decoded terms (unwrap_or (slice_get plans place) []) ≡ plan_of tree
    → (shares ≡ true → share (query_keys tree) (article_keys fields) ≡ true) → held ≡ holds tree fields)
settled_at terms fields plans outlines place o shares r here so =
    let marks = unwrap_or (slice_get plans place) [] in
    each_tree (λ tree held. decoded terms marks ≡ plan_of tree
    → (shares ≡ true → share (query_keys tree) (article_keys fields) ≡ true) → held ≡ holds tree fields) r
    (λ tree. under (decoded terms marks ≡ plan_of tree) _ r
    (λ plan. under (shares ≡ true → share (query_keys tree) (article_keys fields) ≡ true) _ r
    (λ shared. subst (λ (v : Option Bool). IfSome v (λ held. held ≡ holds tree fields))
    (sym (so ∙ ap (settled_by (λ n. has_key fields (term_at terms n))
    (λ m n. has_run fields (term_at terms m ∷ term_at terms n ∷ [])) shares)
    (outline_at plans outlines place o here)))
    (settles terms fields tree shares marks plan shared))))
