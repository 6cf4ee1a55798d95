-- The marks and the words of a group, clause by clause.
use Rattle.std.proofs.Common.{◌≡◌, ℕ, zero, suc, ◌+◌, ◌-◌, ◌<◌, ◌≤◌, List, [], ◌∷◌, ◌++◌, map, length}
use Rattle.std.proofs.Common.{take, get_or, Vec, Global, Result, OnOk, refl, sym, ap, ◌∙◌, subst, arith, append_assoc}
use Rattle.std.proofs.Common.{IsTrue}
use Rattle.std.proofs.lemmas.List.{append-nil, length-append, length_push, take_all, take_more}
use Rattle.std.proofs.lemmas.Result.{on_ok_weaker}
use Rattle.std.proofs.Math.ListN.{set}
use Rattle.std.proofs.Math.Seq.{set-append_seam}
use Rattle.clip_grammar.specs.Tree.{Tree, Clauses, clauses_of, tree_of, nodes, clause_nodes, bare}
use Rattle.clip_grammar.specs.declared.query.Occur.{Occur}
use Rattle.clip_grammar.specs.declared.query.Query.{Query}
use Rattle.clip_grammar.specs.declared.query.Query.TheViews.{Group}
use Rattle.clip_grammar.proofs.Trees.{tree_of_group}
use Rattle.clip_extract.specs.Keys.{KeyValue}
use Rattle.clip_plan.specs.Plan.{Mark, Open, Close, clause_marks, group_marks, plan_of, word_keys, clause_word_keys}
use Rattle.clip_plan.specs.Plan.{are_terms}
use Rattle.clip_plan.specs.declared.step.Step.{Step}
use Rattle.clip_plan.specs.declared.step.Step.TheVariants as step
use Rattle.clip_plan.specs.Steps.Plans.{Adds}
use Rattle.clip_plan.proofs.Bare.{bare_words, bare_nodes, group_clause, group_plan}
use Rattle.clip_plan.proofs.Numbering.{are_parts}
use Rattle.clip_plan.proofs.Standing.{adds_then, adds_step, adds_behind, as_many}

abbrev pub trees : List (Occur × Query) → Clauses
trees cs = clauses_of (map (λ c. (c.0, tree_of c.1)) cs)

group_tree : (query : Query) (v : Vec (Occur × Query) Global) (cs : List (Occur × Query)) → query ≡ Group v
    → cs ≡ v.items → tree_of query ≡ Tree.Group (trees cs)
group_tree query v cs group items =
    ap tree_of group ∙ tree_of_group v ∙ ap (λ l. Tree.Group (trees l)) (sym items)

-- ---- marks

last_marks : (cs : List (Occur × Query)) (c : Occur × Query)
    → group_marks (trees (cs ++ c ∷ [])) ≡ group_marks (trees cs) ++ clause_marks c.0 (tree_of c.1)
last_marks [] c = append-nil (clause_marks c.0 (tree_of c.1))
last_marks (x ∷ xs) c =
    ap (λ ms. clause_marks x.0 (tree_of x.1) ++ ms) (last_marks xs c)
    ∙ sym (append_assoc (clause_marks x.0 (tree_of x.1)) (group_marks (trees xs)) (clause_marks c.0 (tree_of c.1)))

-- the marks of one clause more
pub next_marks : (cs : List (Occur × Query)) (i : ℕ) (c : Occur × Query) → i < length cs → c ≡ get_or cs i c
    → group_marks (trees (take (i + 1) cs)) ≡ group_marks (trees (take i cs)) ++ clause_marks c.0 (tree_of c.1)
next_marks cs i c lt is =
    ap (λ xs. group_marks (trees xs)) (take_more cs i c lt) ∙ last_marks (take i cs) (get_or cs i c)
    ∙ ap (λ x. group_marks (trees (take i cs)) ++ clause_marks x.0 (tree_of x.1)) (sym is)

pub all_marks : (cs : List (Occur × Query)) (i : ℕ) → length cs ≤ i
    → group_marks (trees (take i cs)) ≡ group_marks (trees cs)
all_marks cs i le = ap (λ xs. group_marks (trees xs)) (take_all i cs le)

-- ---- words

words_of : (terms : List KeyValue) (cs : List (Occur × Query)) (i : ℕ) (c : Occur × Query)
    → IsTrue (are_terms terms (clause_word_keys (trees cs))) → i < length cs → c ≡ get_or cs i c
    → IsTrue (are_terms terms (word_keys (tree_of c.1)))
words_of terms [] i c h lt is = absurd (omega arith)
words_of terms (x ∷ xs) zero c h lt is = subst (λ (y : Occur × Query). IsTrue
    (are_terms terms (word_keys (tree_of y.1)))) (sym is)
    (are_parts terms (word_keys (tree_of x.1)) (clause_word_keys (trees xs)) h).0
words_of terms (x ∷ xs) (suc i) c h lt is = words_of terms xs i c
    (are_parts terms (word_keys (tree_of x.1)) (clause_word_keys (trees xs)) h).1 (omega arith) is

-- the words of a clause of the group that is left of a query are terms, as those of the query
pub child_words : (terms : List KeyValue) (tree : Tree) (cs : List (Occur × Query)) (i : ℕ) (c : Occur × Query)
    → bare tree ≡ Tree.Group (trees cs) → IsTrue (are_terms terms (word_keys tree)) → i < length cs
    → c ≡ get_or cs i c → IsTrue (are_terms terms (word_keys (tree_of c.1)))
child_words terms tree cs i c left h lt is =
    words_of terms cs i c
    (subst (λ (keys : List KeyValue). IsTrue (are_terms terms keys)) (sym (bare_words tree) ∙ ap word_keys left) h)
    lt is

-- ---- size

smaller : (cs : List (Occur × Query)) (i : ℕ) (c : Occur × Query) → i < length cs → c ≡ get_or cs i c
    → nodes (tree_of c.1) ≤ clause_nodes (trees cs)
smaller [] i c lt is = absurd (omega arith)
smaller (x ∷ xs) zero c lt is = omega (arith, ap (λ (y : Occur × Query). nodes (tree_of y.1)) is)
smaller (x ∷ xs) (suc i) c lt is = omega (arith, smaller xs i c (omega arith) is)

-- the child of such a clause has fewer nodes than the query
pub child_nodes : (tree : Tree) (cs : List (Occur × Query)) (i : ℕ) (c : Occur × Query)
    → bare tree ≡ Tree.Group (trees cs) → i < length cs → c ≡ get_or cs i c → nodes (tree_of c.1) < nodes tree
child_nodes tree cs i c left lt is = omega (arith, bare_nodes tree, ap nodes left, smaller cs i c lt is)

-- ---- what is left of a query

-- it is this group
pub group_left : (query left : Query) (v : Vec (Occur × Query) Global) (cs : List (Occur × Query))
    → tree_of left ≡ bare (tree_of query) → left ≡ Group v → cs ≡ v.items
    → bare (tree_of query) ≡ Tree.Group (trees cs)
group_left query left v cs is group items = sym is ∙ group_tree left v cs group items

-- ---- what is added

-- one clause more
pub clause_added : {terms : List KeyValue} {runs₀ runs₁ runs₂ : List (List ℕ)}
    {queries₀ queries₁ queries₂ : List Query} {steps₀ steps₁ steps₂ : List Step} (cs : List (Occur × Query)) (i : ℕ)
    (c : Occur × Query) → i < length cs → c ≡ get_or cs i c
    → Adds terms runs₀ queries₀ steps₀ runs₁ queries₁ steps₁ (group_marks (trees (take i cs)))
    → Adds terms runs₁ queries₁ steps₁ runs₂ queries₂ steps₂ (clause_marks c.0 (tree_of c.1))
    → Adds terms runs₀ queries₀ steps₀ runs₂ queries₂ steps₂ (group_marks (trees (take (i + 1) cs)))
clause_added {terms} {runs₀} {runs₁} {runs₂} {queries₀} {queries₁} {queries₂} {steps₀} {steps₁} {steps₂} cs i c lt is
    f g =
    subst (Adds terms runs₀ queries₀ steps₀ runs₂ queries₂ steps₂) (sym (next_marks cs i c lt is))
    (adds_then terms runs₀ runs₁ runs₂ queries₀ queries₁ queries₂ steps₀ steps₁ steps₂
    (group_marks (trees (take i cs))) (clause_marks c.0 (tree_of c.1)) f g)

-- all clauses of a plan
pub plan_added : {terms : List KeyValue} {runs new_runs : List (List ℕ)} {queries new_queries : List Query}
    {steps new : List Step} (tree : Tree) (cs : List (Occur × Query)) (i : ℕ) → bare tree ≡ Tree.Group (trees cs)
    → length cs ≤ i → Adds terms runs queries steps new_runs new_queries new (group_marks (trees (take i cs)))
    → Adds terms runs queries steps new_runs new_queries new (plan_of tree)
plan_added {terms} {runs} {new_runs} {queries} {new_queries} {steps} {new} tree cs i left le f =
    subst (Adds terms runs queries steps new_runs new_queries new)
    (all_marks cs i le ∙ sym (group_plan tree (trees cs) left)) f

-- Steps behind a group's beginning, put between its beginning and its end: at the place of the first stands then how
-- many they are.
pub group_ended : {terms : List KeyValue} {runs new_runs : List (List ℕ)} {queries new_queries : List Query}
    {front most : List Step} {more : List (Mark KeyValue)} (occur : Occur) (first : Step) (count : ℕ)
    (new : List Step)
    → Adds terms runs queries (front ++ first ∷ []) new_runs new_queries most more → count ≡ length more
    → new ≡ set most (length front) (step.Open occur count) ++ step.Close occur ∷ []
    → Adds terms runs queries front new_runs new_queries new (Open occur (length more) ∷ more ++ Close occur ∷ [])
group_ended {terms} {runs} {new_runs} {queries} {new_queries} {front} {most} {more} occur first count new f many e =
    let opening = step.Open occur count in
    let opened = front ++ opening ∷ [] in
    let laid : set most (length front) opening ≡ opened ++ f.added =
    ap (λ l. set l (length front) opening) (f.behind ∙ append_assoc front (first ∷ []) f.added)
    ∙ set-append_seam front first f.added opening ∙ sym (append_assoc front (opening ∷ []) f.added) in
    adds_then terms runs runs new_runs queries queries new_queries front opened new (Open occur (length more) ∷ [])
    (more ++ Close occur ∷ [])
    (adds_step terms runs queries front opened opening (Open occur (length more)) refl tt (ap (Open occur) many))
    (adds_then terms runs new_runs new_runs queries new_queries new_queries opened (opened ++ f.added) new more
    (Close occur ∷ [])
    (adds_behind f opened)
    (adds_step terms new_runs new_queries (opened ++ f.added) new (step.Close occur) (Close occur)
    (e ∙ ap (λ l. l ++ step.Close occur ∷ []) laid) tt refl))

-- how many steps stand behind a group's beginning
pub inside_count : {terms : List KeyValue} {runs new_runs : List (List ℕ)} {queries new_queries : List Query}
    {most : List Step} {more : List (Mark KeyValue)} (front : List Step) (first : Step)
    → Adds terms runs queries (front ++ first ∷ []) new_runs new_queries most more
    → length most ≡ length front + 1 + length more
inside_count {more = more} front first f =
    omega (arith, ap length f.behind, length-append (front ++ first ∷ []) f.added, length_push front first, as_many f)

-- a group as a clause, where its beginning says how many steps there are behind it, and the last step is its end
pub group_added : {terms : List KeyValue} {runs new_runs : List (List ℕ)} {queries new_queries : List Query}
    {steps most : List Step} (tree : Tree) (cs : List (Occur × Query)) (i : ℕ) (occur : Occur) (first : Step)
    (count : ℕ) (new : List Step) → bare tree ≡ Tree.Group (trees cs) → length cs ≤ i
    → Adds terms runs queries (steps ++ first ∷ []) new_runs new_queries most (group_marks (trees (take i cs)))
    → length steps + 1 + count ≡ length most
    → new ≡ set most (length steps) (step.Open occur count) ++ step.Close occur ∷ []
    → Adds terms runs queries steps new_runs new_queries new (clause_marks occur tree)
group_added {terms} {runs} {new_runs} {queries} {new_queries} {steps} {most} tree cs i occur first count new left le f
    many e =
    subst (Adds terms runs queries steps new_runs new_queries new)
    (ap (λ ms. Open occur (length ms) ∷ ms ++ Close occur ∷ []) (all_marks cs i le)
    ∙ sym (group_clause occur tree (trees cs) left))
    (group_ended occur first count new f (omega (arith, inside_count steps first f, many)) e)

-- a group that was ended, if its end was added
pub group_closed : {T E : Type 0} (r : Result T E) {terms : List KeyValue} {runs new_runs : List (List ℕ)}
    {queries new_queries : List Query} (steps most : List Step) (tree : Tree) (cs : List (Occur × Query)) (i : ℕ)
    (occur : Occur) (first : Step) (opening : ℕ) (new : List Step) → bare tree ≡ Tree.Group (trees cs)
    → length cs ≤ i → opening ≡ length steps
    → Adds terms runs queries (steps ++ first ∷ []) new_runs new_queries most (group_marks (trees (take i cs)))
    → OnOk r (new ≡ set most opening (step.Open occur (length most - opening - 1)) ++ step.Close occur ∷ [])
    → OnOk r (Adds terms runs queries steps new_runs new_queries new (clause_marks occur tree))
group_closed r steps most tree cs i occur first opening new left le at f =
    on_ok_weaker r (λ e. group_added tree cs i occur first (length most - length steps - 1) new left le f
    (omega (arith, inside_count steps first f))
    (e ∙ ap (λ n. set most n (step.Open occur (length most - n - 1)) ++ step.Close occur ∷ []) at))
