-- The positions of queries in an index are those of their entries.
use Rattle.std.proofs.Common.{◌≡◌, ℕ, ◌+◌, Bool, true, false, cond, List, [], ◌∷◌, map, filter, Some, unwrap_or}
use Rattle.std.proofs.Common.{option_map, slice_get, refl, ap, ◌∙◌}
use Rattle.std.proofs.lemmas.Option.{slice_get-map}
use Rattle.std.specs.List.{enumerate_from}
use Rattle.clip_grammar.specs.Tree.{Tree}
use Rattle.clip_extract.specs.Extraction.{query_keys}
use Rattle.clip_extract.specs.Keys.{KeyValue}
use Rattle.clip_plan.specs.Plan.{Mark, decoded, plan_of}
use Rattle.clip_segment.specs.Index.{IndexValue, IsIndexOf, has_key, query_positions_with}
use Rattle.clip_segment.proofs.Answering.{decoded_at, plan_at}
use Rattle.clip_model.specs.History.{Registered}
use Rattle.clip_segment.specs.Segment.{positions_with, trees_of}

positions_from : (test : Tree → Bool) (n : ℕ) (es : List Registered)
    → map (λ (p : ℕ × Tree). p.0) (filter (λ (p : ℕ × Tree). test p.1) (enumerate_from n (trees_of es)))
    ≡ map (λ (p : ℕ × Registered). p.0) (filter (λ (p : ℕ × Registered). test p.1.standing.tree) (enumerate_from n es))
positions_from test n [] = refl
positions_from test n (e ∷ es) =
    let later = positions_from test (n + 1) es in
    let trees = filter (λ (p : ℕ × Tree). test p.1) (enumerate_from (n + 1) (trees_of es)) in
    let entries = filter (λ (p : ℕ × Registered). test p.1.standing.tree) (enumerate_from (n + 1) es) in
    elim (test e.standing.tree) as (λ b. map (λ (p : ℕ × Tree). p.0) (cond b ((n, e.standing.tree) ∷ trees) trees)
    ≡ map (λ (p : ℕ × Registered). p.0) (cond b ((n, e) ∷ entries) entries)) [
      | true ↦ ap (λ ns. n ∷ ns) later
      | false ↦ later
    ]

pub positions_of_key : (key : KeyValue) (es : List Registered) → query_positions_with query_keys key (trees_of es)
    ≡ positions_with key es
positions_of_key key es = positions_from (has_key query_keys key) 0 es

-- a test of the queries is one of their entries
pub tests_of_trees : (test : Tree → Bool) (es : List Registered)
    → map test (trees_of es) ≡ map (λ (e : Registered). test e.standing.tree) es
tests_of_trees test [] = refl
tests_of_trees test (e ∷ es) = ap (λ bs. test e.standing.tree ∷ bs) (tests_of_trees test es)

-- the plan at the position of an entry is that of its query
pub plan_of_entry : (es : List Registered) (index : IndexValue) → IsIndexOf (trees_of es) index
    → (position : ℕ) (entry : Registered) → slice_get es position ≡ Some entry
    → decoded index.terms (unwrap_or (slice_get index.plans position) []) ≡ plan_of entry.standing.tree
plan_of_entry es index is position entry there =
    let tree : Registered → Tree = λ e. e.standing.tree in
    plan_at (trees_of es) index is position entry.standing.tree (slice_get-map tree es position
    ∙ ap (option_map tree) there)

-- the same of plans alone
pub decoded_of_entry : (es : List Registered) (terms : List KeyValue) (plans : List (List (Mark ℕ)))
    → map (decoded terms) plans ≡ map plan_of (trees_of es) → (position : ℕ) (entry : Registered)
    → slice_get es position ≡ Some entry
    → decoded terms (unwrap_or (slice_get plans position) []) ≡ plan_of entry.standing.tree
decoded_of_entry es terms plans are position entry there =
    let tree : Registered → Tree = λ e. e.standing.tree in
    decoded_at (trees_of es) terms plans are position entry.standing.tree (slice_get-map tree es position
    ∙ ap (option_map tree) there)
