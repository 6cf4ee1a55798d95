-- Plans with other numbers, and the keys that they name.
use Rattle.std.proofs.Common.{◌≡◌, ℕ, zero, suc, ◌+◌, ◌<◌, ◌≤◌, List, [], ◌∷◌, ◌++◌, map, length, take, get_or, Option}
use Rattle.std.proofs.Common.{unwrap_or, slice_get, Result, OnOk, refl, sym, ap, ◌∙◌, subst, arith, append_assoc}
use Rattle.std.proofs.Common.{append-nil}
use Rattle.std.proofs.lemmas.List.{map-append, map_more, take_more, length_push}
use Rattle.std.proofs.lemmas.Grind.{flat_map-append}
use Rattle.std.proofs.lemmas.Result.{on_ok_weaker}
use Rattle.clip_grammar.specs.Tree.{Tree, tree_of}
use Rattle.clip_grammar.specs.declared.query.Occur.{Occur}
use Rattle.clip_grammar.specs.declared.query.Query.{Query}
use Rattle.clip_extract.specs.Keys.{KeyValue}
use Rattle.clip_terms.specs.Terms.{term_at}
use Rattle.clip_plan.specs.Plan.{Mark, Leaf, Is, Open, Close, mark_names, names, decoded, renumbered, renamed}
use Rattle.clip_plan.specs.declared.step.Step.{Step}
use Rattle.clip_plan.specs.declared.step.Step.TheVariants as step
use Rattle.clip_plan.specs.Steps.Plans.{Adds, mark_of}
use Rattle.clip_plan.proofs.Standing.{adds_then, adds_step, adds_term, adds_phrase, grows_by, get_last}

-- the marks of steps with new numbers, over keys
abbrev pub marks_renamed : (terms : List KeyValue) (numbers : List (Option ℕ)) (runs : List (List ℕ))
    (queries : List Tree) → List Step → List (Mark KeyValue)
marks_renamed terms numbers runs queries steps = decoded terms (renamed numbers (map (mark_of runs queries) steps))

renamed_more : (terms : List KeyValue) (numbers : List (Option ℕ)) (runs : List (List ℕ)) (queries : List Tree)
    (xs ys : List Step)
    → marks_renamed terms numbers runs queries (xs ++ ys) ≡ marks_renamed terms numbers runs queries xs
    ++ marks_renamed terms numbers runs queries ys
renamed_more terms numbers runs queries xs ys =
    ap (λ ms. decoded terms (renamed numbers ms)) (map-append (mark_of runs queries) xs ys)
    ∙ ap (decoded terms) (map-append _ (map (mark_of runs queries) xs) (map (mark_of runs queries) ys))
    ∙ map-append _ (renamed numbers (map (mark_of runs queries) xs)) (renamed numbers (map (mark_of runs queries) ys))

-- one step more
pub step_renamed : {terms : List KeyValue} {runs₀ runs₁ runs₂ : List (List ℕ)}
    {queries₀ queries₁ queries₂ : List Query} {steps₀ steps₁ steps₂ : List Step}
    (numbers : List (Option ℕ)) (runs : List (List ℕ)) (queries : List Tree) (from : List Step) (i : ℕ) (d : Step)
    → i < length from
    → Adds terms runs₀ queries₀ steps₀ runs₁ queries₁ steps₁ (marks_renamed terms numbers runs queries (take i from))
    → Adds terms runs₁ queries₁ steps₁ runs₂ queries₂ steps₂
    (marks_renamed terms numbers runs queries (get_or from i d ∷ []))
    → Adds terms runs₀ queries₀ steps₀ runs₂ queries₂ steps₂
    (marks_renamed terms numbers runs queries (take (i + 1) from))
step_renamed {terms} {runs₀} {runs₁} {runs₂} {queries₀} {queries₁} {queries₂} {steps₀} {steps₁} {steps₂} numbers runs
    queries from i d lt f g =
    let all = marks_renamed terms numbers runs queries in
    subst (Adds terms runs₀ queries₀ steps₀ runs₂ queries₂ steps₂)
    (sym (renamed_more terms numbers runs queries (take i from) (get_or from i d ∷ []))
    ∙ ap all (sym (take_more from i d lt)))
    (adds_then terms runs₀ runs₁ runs₂ queries₀ queries₁ queries₂ steps₀ steps₁ steps₂ (all (take i from))
    (all (get_or from i d ∷ [])) f g)

-- ---- the keys that marks name

names_more : {K : Type 0} (mark : Step → Mark K) (steps : List Step) (i : ℕ) (d : Step) → i < length steps
    → names (map mark (take (i + 1) steps)) ≡ names (map mark (take i steps)) ++ mark_names (mark (get_or steps i d))
names_more mark steps i d lt =
    ap names (map_more mark steps i d lt)
    ∙ flat_map-append mark_names (map mark (take i steps)) (mark (get_or steps i d) ∷ [])
    ∙ ap (λ ks. names (map mark (take i steps)) ++ ks) (append-nil _)

-- those of one step more, behind others
pub next_named : {K : Type 0} (mark : Step → Mark K) (steps : List Step) (i : ℕ) (d : Step) (old before new : List K)
    → i < length steps
    → before ≡ old ++ names (map mark (take i steps)) → new ≡ before ++ mark_names (mark (get_or steps i d))
    → new ≡ old ++ names (map mark (take (i + 1) steps))
next_named mark steps i d old before new lt so e =
    e ∙ ap (λ ks. ks ++ mark_names (mark (get_or steps i d))) so
    ∙ append_assoc old (names (map mark (take i steps))) (mark_names (mark (get_or steps i d)))
    ∙ ap (λ ks. old ++ ks) (sym (names_more mark steps i d lt))

-- ---- what stands at a place

pub mapped_at : {A B : Type 0} (f : A → B) (xs : List A) (n : ℕ) (d : A) → unwrap_or (slice_get (map f xs) n) (f d)
    ≡ f (unwrap_or (slice_get xs n) d)
mapped_at f [] n d = refl
mapped_at f (x ∷ xs) zero d = refl
mapped_at f (x ∷ xs) (suc n) d = mapped_at f xs n d

pub past_last : {A : Type 0} (xs : List A) (n : ℕ) (d : A) → length xs ≤ n → unwrap_or (slice_get xs n) d ≡ d
past_last [] n d far = refl
past_last (x ∷ xs) zero d far = absurd (omega arith)
past_last (x ∷ xs) (suc n) d far = past_last xs n d (omega arith)

-- ---- one step, added

-- a term with its new number
pub term_renamed : (terms : List KeyValue) (numbers : List (Option ℕ)) (from runs : List (List ℕ)) (others : List Tree)
    (queries : List Query) (steps new : List Step)
    (occur : Occur) (old number : ℕ) (s : Step) → s ≡ step.Term occur old → number ≡ renumbered numbers old
    → new ≡ steps ++ step.Term occur number ∷ []
    → Adds terms runs queries steps runs queries new (marks_renamed terms numbers from others (s ∷ []))
term_renamed terms numbers from runs others queries steps new occur old number s is at e =
    subst (Adds terms runs queries steps runs queries new)
    (ap (λ x. marks_renamed terms numbers from others (x ∷ [])) (sym is))
    (adds_term terms runs queries steps new occur number (term_at terms (renumbered numbers old)) e
    (ap (term_at terms) at))

-- a group's beginning
pub open_renamed : (terms : List KeyValue) (numbers : List (Option ℕ)) (from runs : List (List ℕ)) (others : List Tree)
    (queries : List Query) (steps new : List Step) (s : Step)
    (occur : Occur) (inside : ℕ) → s ≡ step.Open occur inside → new ≡ steps ++ step.Open occur inside ∷ []
    → Adds terms runs queries steps runs queries new (marks_renamed terms numbers from others (s ∷ []))
open_renamed terms numbers from runs others queries steps new s occur inside is e =
    subst (Adds terms runs queries steps runs queries new)
    (ap (λ x. marks_renamed terms numbers from others (x ∷ [])) (sym is))
    (adds_step terms runs queries steps new (step.Open occur inside) (Open occur inside) e tt refl)

-- and its end
pub close_renamed : (terms : List KeyValue) (numbers : List (Option ℕ)) (from runs : List (List ℕ))
    (others : List Tree) (queries : List Query) (steps new : List Step) (occur : Occur) (s : Step)
    → s ≡ step.Close occur → new ≡ steps ++ step.Close occur ∷ []
    → Adds terms runs queries steps runs queries new (marks_renamed terms numbers from others (s ∷ []))
close_renamed terms numbers from runs others queries steps new occur s is e =
    subst (Adds terms runs queries steps runs queries new)
    (ap (λ x. marks_renamed terms numbers from others (x ∷ [])) (sym is))
    (adds_step terms runs queries steps new (step.Close occur) (Close occur) e tt refl)

-- a run with new numbers
pub run_renamed : (terms : List KeyValue) (numbers : List (Option ℕ)) (from runs new_runs : List (List ℕ))
    (others : List Tree) (queries : List Query) (steps new : List Step)
    (occur : Occur) (old place : ℕ) (run got : List ℕ) (s : Step) → s ≡ step.Phrase occur old
    → got ≡ unwrap_or (slice_get from old) [] → run ≡ map (renumbered numbers) got
    → new_runs ≡ runs ++ run ∷ [] → place ≡ length runs → new ≡ steps ++ step.Phrase occur place ∷ []
    → Adds terms runs queries steps new_runs queries new (marks_renamed terms numbers from others (s ∷ []))
run_renamed terms numbers from runs new_runs others queries steps new occur old place run got s is at made added here
    e =
    let found : unwrap_or (slice_get new_runs place) [] ≡ map (renumbered numbers) (unwrap_or (slice_get from old) []) =
    ap (λ l. unwrap_or (slice_get l place) []) added ∙ ap (λ n. unwrap_or (slice_get (runs ++ run ∷ []) n) []) here
    ∙ ap (λ o. unwrap_or o []) (get_last runs run)
    ∙ made ∙ ap (map (renumbered numbers)) at in
    subst (Adds terms runs queries steps new_runs queries new)
    (ap (λ x. marks_renamed terms numbers from others (x ∷ [])) (sym is))
    (adds_phrase terms runs new_runs queries steps new occur place _ (grows_by runs new_runs run added)
    (omega (arith, here, ap length added, length_push runs run)) (ap (map (term_at terms)) found) e)

-- a copy of a query that is kept as it is
pub query_renamed : {T E : Type 0} (r : Result T E) (numbers : List (Option ℕ)) (from runs : List (List ℕ))
    (others : List Tree) (queries new_queries : List Query) (steps new : List Step)
    (occur : Occur) (old : ℕ) (copy : Query) (s : Step) → s ≡ step.Query occur old
    → tree_of copy ≡ unwrap_or (slice_get others old) Tree.All
    → OnOk r ((terms : List KeyValue) (runs : List (List ℕ))
    → Adds terms runs queries steps runs new_queries new (Leaf occur (Is (tree_of copy)) ∷ []))
    → OnOk r ((terms : List KeyValue)
    → Adds terms runs queries steps runs new_queries new (marks_renamed terms numbers from others (s ∷ [])))
query_renamed r numbers from runs others queries new_queries steps new occur old copy s is same =
    on_ok_weaker r (λ added terms.
    subst (Adds terms runs queries steps runs new_queries new)
    (ap (λ t. Leaf occur (Is t) ∷ []) same ∙ ap (λ x. marks_renamed terms numbers from others (x ∷ [])) (sym is))
    (added terms runs))
