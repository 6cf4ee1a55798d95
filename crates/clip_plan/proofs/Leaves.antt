-- The marks of queries that are no groups.
use Rattle.std.proofs.Common.{◌≡◌, ℕ, ◌<◌, ◌≤◌, List, [], ◌∷◌, ◌++◌, map, length, slice_get, get_or, unwrap_or, Vec}
use Rattle.std.proofs.Common.{Global, Result, OnOk, refl, sym, ap, ◌∙◌, subst, arith}
use Rattle.std.specs.Arc.{arc_str_bytes}
use Rattle.std.specs.declared.sync.ArcStr.{ArcStr}
use Rattle.std.proofs.lemmas.Result.{on_ok_weaker}
use Rattle.clip_grammar.specs.Tree.{Tree, tree_of, tree_step, end_of}
use Rattle.clip_grammar.specs.declared.query.Bound.{Bound}
use Rattle.clip_grammar.specs.declared.query.Occur.{Occur}
use Rattle.clip_grammar.specs.declared.query.Occur.TheVariants.{Must}
use Rattle.clip_grammar.specs.declared.query.Query.{Query}
use Rattle.clip_grammar.specs.declared.query.Query.TheOpen as layer
use Rattle.clip_grammar.specs.declared.query.Query.TheVariants.{Term, Phrase, Prefix, Span, All, rolls-Term}
use Rattle.clip_grammar.specs.declared.query.Query.TheVariants.{rolls-Phrase, rolls-Prefix, rolls-Span, rolls-All}
use Rattle.clip_grammar.specs.declared.query.Query.TheVariants.{rolls-Group}
use Rattle.clip_grammar.specs.declared.query.Query.TheFolds.{fold-roll-Query}
use Rattle.clip_grammar.specs.declared.query.Query.TheViews.{roll-Query, out-Query, roll-out-Query}
use Rattle.clip_extract.specs.Keys.{KeyValue, Word}
use Rattle.clip_terms.specs.Terms.{term_at}
use Rattle.clip_plan.specs.Plan.{Leaf, Is, Run, clause_marks, plan_of}
use Rattle.clip_plan.specs.declared.step.Step.{Step}
use Rattle.clip_plan.specs.declared.step.Step.TheVariants as step
use Rattle.clip_plan.specs.Steps.Plans.{Grows, Adds, IsNoGroup}
use Rattle.clip_plan.proofs.Words.{phrase_words}
use Rattle.clip_plan.proofs.Standing.{adds_term, adds_step, adds_phrase}

-- ---- trees

pub tree_of_term : (field word : ArcStr Global)
    → tree_of (Term field word) ≡ Tree.Term (arc_str_bytes field) (arc_str_bytes word)
tree_of_term field word = ap tree_of (sym (rolls-Term field word))
    ∙ fold-roll-Query Tree tree_step (layer.Term field word)

pub tree_of_phrase : (field : ArcStr Global) (words : Vec (ArcStr Global) Global) → tree_of (Phrase field words)
    ≡ Tree.Phrase (arc_str_bytes field) (map arc_str_bytes words.items)
tree_of_phrase field words = ap tree_of (sym (rolls-Phrase field words))
    ∙ fold-roll-Query Tree tree_step (layer.Phrase field words)

pub tree_of_prefix : (field front : ArcStr Global) → tree_of (Prefix field front)
    ≡ Tree.Prefix (arc_str_bytes field) (arc_str_bytes front)
tree_of_prefix field front = ap tree_of (sym (rolls-Prefix field front))
    ∙ fold-roll-Query Tree tree_step (layer.Prefix field front)

pub tree_of_span : (field : ArcStr Global) (low high : Bound) → tree_of (Span field low high)
    ≡ Tree.Span (arc_str_bytes field) (end_of low) (end_of high)
tree_of_span field low high = ap tree_of (sym (rolls-Span field low high))
    ∙ fold-roll-Query Tree tree_step (layer.Span field low high)

pub tree_of_all : tree_of All ≡ Tree.All
tree_of_all = ap tree_of (sym rolls-All) ∙ fold-roll-Query Tree tree_step layer.All

-- ---- plans

layer_plan : (l : layer.Query-F Query) → IsNoGroup (roll-Query l)
    → clause_marks Must (tree_of (roll-Query l)) ≡ plan_of (tree_of (roll-Query l))
layer_plan (layer.Group v) apart = absurd (apart v (rolls-Group v))
layer_plan l apart = subst (λ t. clause_marks Must t ≡ plan_of t) (sym (fold-roll-Query Tree tree_step l)) refl

-- a query that is no group is the only clause, which must hold
pub leaf_plan : (query : Query) → IsNoGroup query → clause_marks Must (tree_of query) ≡ plan_of (tree_of query)
leaf_plan query apart =
    subst (λ q. clause_marks Must (tree_of q) ≡ plan_of (tree_of q)) (roll-out-Query query)
    (layer_plan (out-Query query) (λ v is. apart v (sym (roll-out-Query query) ∙ is)))

-- ---- what is added

pub term_added : (terms : List KeyValue) (runs : List (List ℕ)) (queries : List Query) (steps new : List Step)
    (occur : Occur) (number : ℕ) (query : Query) (field word : ArcStr Global)
    → query ≡ Term field word → term_at terms number ≡ Word (arc_str_bytes field) (arc_str_bytes word)
    → new ≡ steps ++ step.Term occur number ∷ []
    → Adds terms runs queries steps runs queries new (clause_marks occur (tree_of query))
term_added terms runs queries steps new occur number query field word term is e =
    subst (Adds terms runs queries steps runs queries new)
    (sym (ap (clause_marks occur) (ap tree_of term ∙ tree_of_term field word)))
    (adds_term terms runs queries steps new occur number (Word (arc_str_bytes field) (arc_str_bytes word)) e is)

pair_keys : (terms : List KeyValue) (field : List ℕ) (words : List (ArcStr Global)) (first second : ArcStr Global)
    (m n : ℕ) → 2 ≤ length words → length words < 3 → first ≡ get_or words 0 first → second ≡ get_or words 1 second
    → term_at terms m ≡ Word field (arc_str_bytes first) → term_at terms n ≡ Word field (arc_str_bytes second)
    → term_at terms m ∷ term_at terms n ∷ [] ≡ phrase_words field words
pair_keys terms field [] first second m n long short f s is₁ is₂ = absurd (omega arith)
pair_keys terms field (x ∷ []) first second m n long short f s is₁ is₂ = absurd (omega arith)
pair_keys terms field (x ∷ y ∷ []) first second m n long short f s is₁ is₂ =
    ap (λ k. k ∷ term_at terms n ∷ []) (is₁ ∙ ap (λ w. Word field (arc_str_bytes w)) f)
    ∙ ap (λ k. Word field (arc_str_bytes x) ∷ k ∷ []) (is₂ ∙ ap (λ w. Word field (arc_str_bytes w)) s)
pair_keys terms field (x ∷ y ∷ z ∷ zs) first second m n long short f s is₁ is₂ = absurd (omega arith)

-- a phrase of two words
pub pair_added : (terms : List KeyValue) (runs new_runs : List (List ℕ)) (queries : List Query) (steps new : List Step)
    (occur : Occur) (field : List ℕ) (words : List (ArcStr Global)) (first second : ArcStr Global) (m n : ℕ) (s : Step)
    → new_runs ≡ runs → s ≡ step.Pair occur m n → new ≡ steps ++ s ∷ [] → 2 ≤ length words → length words < 3
    → first ≡ get_or words 0 first → second ≡ get_or words 1 second
    → term_at terms m ≡ Word field (arc_str_bytes first) → term_at terms n ≡ Word field (arc_str_bytes second)
    → Adds terms runs queries steps new_runs queries new (Leaf occur (Run (phrase_words field words)) ∷ [])
pair_added terms runs new_runs queries steps new occur field words first second m n s same is e long short f g is₁ is₂ =
    subst (λ r. Adds terms runs queries steps r queries new (Leaf occur (Run (phrase_words field words)) ∷ []))
    (sym same)
    (adds_step terms runs queries steps new (step.Pair occur m n) (Leaf occur (Run (phrase_words field words))) (e
    ∙ ap (λ x. steps ++ x ∷ []) is) tt
    (ap (λ ks. Leaf occur (Run ks)) (pair_keys terms field words first second m n long short f g is₁ is₂)))

-- another phrase, by its run
pub run_added : (terms : List KeyValue) (runs more new_runs : List (List ℕ)) (queries : List Query)
    (steps new : List Step) (occur : Occur) (place : ℕ) (keys : List KeyValue) (s : Step)
    → new_runs ≡ more → s ≡ step.Phrase occur place → new ≡ steps ++ s ∷ [] → Grows runs more → place < length more
    → map (term_at terms) (unwrap_or (slice_get more place) []) ≡ keys
    → Adds terms runs queries steps new_runs queries new (Leaf occur (Run keys) ∷ [])
run_added terms runs more new_runs queries steps new occur place keys s same step e g inside is =
    subst (λ r. Adds terms runs queries steps r queries new (Leaf occur (Run keys) ∷ [])) (sym same)
    (adds_phrase terms runs more queries steps new occur place keys g inside is (e ∙ ap (λ x. steps ++ x ∷ []) step))

pub phrase_added : {T E : Type 0} (r : Result T E) (terms : List KeyValue) (runs new_runs : List (List ℕ))
    (queries : List Query) (steps new : List Step) (occur : Occur) (query : Query) (field : ArcStr Global)
    (words : Vec (ArcStr Global) Global) (items : List (ArcStr Global))
    → query ≡ Phrase field words → items ≡ words.items
    → OnOk r ((queries : List Query)
    → Adds terms runs queries steps new_runs queries new
    (Leaf occur (Run (phrase_words (arc_str_bytes field) items)) ∷ []))
    → OnOk r (Adds terms runs queries steps new_runs queries new (clause_marks occur (tree_of query)))
phrase_added r terms runs new_runs queries steps new occur query field words items phrase same =
    on_ok_weaker r (λ added.
    subst (Adds terms runs queries steps new_runs queries new)
    (ap (λ l. Leaf occur (Run (phrase_words (arc_str_bytes field) l)) ∷ []) same
    ∙ sym (ap (clause_marks occur) (ap tree_of phrase ∙ tree_of_phrase field words)))
    (added queries))

-- a query that is kept as it is, of which a copy is added
pub query_added : {T E : Type 0} (r : Result T E) (terms : List KeyValue) (runs : List (List ℕ))
    (queries new_queries : List Query) (steps new : List Step) (occur : Occur) (copy query : Query) (tree : Tree)
    → tree_of copy ≡ tree → tree_of query ≡ tree
    → clause_marks occur tree ≡ Leaf occur (Is tree) ∷ []
    → OnOk r ((terms : List KeyValue) (runs : List (List ℕ))
    → Adds terms runs queries steps runs new_queries new (Leaf occur (Is (tree_of copy)) ∷ []))
    → OnOk r (Adds terms runs queries steps runs new_queries new (clause_marks occur (tree_of query)))
query_added r terms runs queries new_queries steps new occur copy query tree copied is as_it_is =
    on_ok_weaker r (λ added.
    subst (Adds terms runs queries steps runs new_queries new) (ap (λ t. Leaf occur (Is t) ∷ []) copied
    ∙ sym as_it_is ∙ ap (clause_marks occur) (sym is)) (added terms runs))
