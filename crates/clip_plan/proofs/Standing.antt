-- Steps that stand for marks, while runs and queries are added.
use Rattle.std.proofs.Common.{◌≡◌, ℕ, zero, suc, ◌<◌, ◌≤◌, List, [], ◌∷◌, ◌++◌, map, length, slice_get, Some, unwrap_or}
use Rattle.std.proofs.Common.{refl, sym, ap, ◌∙◌, subst, arith, append_assoc, length-append}
use Rattle.std.specs.List.{All}
use Rattle.std.proofs.lemmas.List.{append-nil, length-map, map-append, map_push, length_push}
use Rattle.std.proofs.lemmas.List.Elements.{All-nil, All-cons, All-append, All-head, All-tail, All-push, All-weaker}
use Rattle.clip_grammar.specs.Tree.{Tree, tree_of}
use Rattle.clip_grammar.specs.declared.query.Occur.{Occur}
use Rattle.clip_grammar.specs.declared.query.Query.{Query}
use Rattle.clip_extract.specs.Keys.{KeyValue}
use Rattle.clip_terms.specs.Terms.{term_at}
use Rattle.clip_plan.specs.Plan.{Mark, Leaf, Has, Run, Is, named, decoded}
use Rattle.clip_plan.specs.declared.step.Step.{Step}
use Rattle.clip_plan.specs.declared.step.Step.TheVariants as step
use Rattle.clip_plan.specs.Steps.Plans.{mark_of, HasPlace, Grows, StandFor, Adds}

-- ---- lists that grow

pub grows_not : {A : Type 0} (xs : List A) → Grows xs xs
grows_not xs = record { more = []; is = sym (append-nil xs) }

pub grows_by : {A : Type 0} (xs ys : List A) (y : A) → ys ≡ xs ++ y ∷ [] → Grows xs ys
grows_by xs ys y e = record { more = y ∷ []; is = e }

pub grows_then : {A : Type 0} {xs ys zs : List A} → Grows xs ys → Grows ys zs → Grows xs zs
grows_then {xs = xs} g h = record {
  more = g.more ++ h.more;
  is = h.is ∙ ap (λ l. l ++ h.more) g.is
      ∙ append_assoc xs g.more h.more;
}

pub longer : {A : Type 0} {xs ys : List A} → Grows xs ys → length xs ≤ length ys
longer {xs = xs} {ys = ys} g = omega (arith, ap length g.is, length-append xs g.more)

-- as long, where the list that has grown is as long
pub as_long : {A : Type 0} {xs ys : List A} (n : ℕ) → Grows xs ys → length ys ≤ n → length xs ≤ n
as_long n g le = omega (arith, longer g, le)

get_front : {A : Type 0} (xs ys : List A) (i : ℕ) → i < length xs → slice_get (xs ++ ys) i ≡ slice_get xs i
get_front [] ys i h = absurd (omega arith)
get_front (x ∷ xs) ys zero h = refl
get_front (x ∷ xs) ys (suc i) h = get_front xs ys i (omega arith)

get_kept : {A : Type 0} (xs ys : List A) (i : ℕ) → Grows xs ys → i < length xs → slice_get ys i ≡ slice_get xs i
get_kept xs ys i g h = ap (λ l. slice_get l i) g.is ∙ get_front xs g.more i h

pub get_last : {A : Type 0} (xs : List A) (y : A) → slice_get (xs ++ y ∷ []) (length xs) ≡ Some y
get_last [] y = refl
get_last (x ∷ xs) y = get_last xs y

trees_grow : {xs ys : List Query} → Grows xs ys → Grows (map tree_of xs) (map tree_of ys)
trees_grow {xs = xs} g = record {
  more = map tree_of g.more;
  is = ap (map tree_of) g.is
      ∙ map-append tree_of xs g.more;
}

-- ---- marks stay what they are

place_kept : (m n k l : ℕ) (s : Step) → m ≤ k → n ≤ l → HasPlace m n s → HasPlace k l s
place_kept m n k l (step.Term occur number) a b h = tt
place_kept m n k l (step.Pair occur first second) a b h = tt
place_kept m n k l (step.Phrase occur place) a b h = omega arith
place_kept m n k l (step.Query occur place) a b h = omega arith
place_kept m n k l (step.Open occur inside) a b h = tt
place_kept m n k l (step.Close occur) a b h = tt

pub places_kept : (m n k l : ℕ) (steps : List Step) → m ≤ k → n ≤ l → All (HasPlace m n) steps
    → All (HasPlace k l) steps
places_kept m n k l steps a b h = All-weaker (HasPlace m n) (HasPlace k l) (λ s. place_kept m n k l s a b) steps h

mark_kept : (runs new_runs : List (List ℕ)) (queries new_queries : List Query) (s : Step) → Grows runs new_runs
    → Grows queries new_queries → HasPlace (length runs) (length queries) s
    → mark_of new_runs (map tree_of new_queries) s ≡ mark_of runs (map tree_of queries) s
mark_kept runs new_runs queries new_queries (step.Term occur number) g a h = refl
mark_kept runs new_runs queries new_queries (step.Pair occur first second) g a h = refl
mark_kept runs new_runs queries new_queries (step.Phrase occur place) g a h = ap
    (λ o. Leaf occur (Run (unwrap_or o []))) (get_kept runs new_runs place g h)
mark_kept runs new_runs queries new_queries (step.Query occur place) g a h =
    ap (λ o. Leaf occur (Is (unwrap_or o Tree.All))) (get_kept (map tree_of queries) (map tree_of new_queries) place
    (trees_grow a) (rw length-map h))
mark_kept runs new_runs queries new_queries (step.Open occur inside) g a h = refl
mark_kept runs new_runs queries new_queries (step.Close occur) g a h = refl

pub marks_kept : (runs new_runs : List (List ℕ)) (queries new_queries : List Query) (steps : List Step)
    → Grows runs new_runs → Grows queries new_queries → All (HasPlace (length runs) (length queries)) steps
    → map (mark_of new_runs (map tree_of new_queries)) steps ≡ map (mark_of runs (map tree_of queries)) steps
marks_kept runs new_runs queries new_queries [] g a h = refl
marks_kept runs new_runs queries new_queries (s ∷ ss) g a h =
    let P = HasPlace (length runs) (length queries) in
    ap (λ m. m ∷ map (mark_of new_runs (map tree_of new_queries)) ss)
    (mark_kept runs new_runs queries new_queries s g a (All-head P s ss h))
    ∙ ap (λ ms. mark_of runs (map tree_of queries) s ∷ ms)
    (marks_kept runs new_runs queries new_queries ss g a (All-tail P s ss h))

pub stand_kept : (terms : List KeyValue) (runs new_runs : List (List ℕ)) (queries new_queries : List Query)
    (steps : List Step) (marks : List (Mark KeyValue)) → Grows runs new_runs → Grows queries new_queries
    → StandFor terms runs queries steps marks → StandFor terms new_runs new_queries steps marks
stand_kept terms runs new_runs queries new_queries steps marks g a h = record {
  places = places_kept (length runs) (length queries) (length new_runs) (length new_queries) steps (longer g)
      (longer a) h.places;
  decode = ap (decoded terms) (marks_kept runs new_runs queries new_queries steps g a h.places) ∙ h.decode;
}

-- steps behind others
stand_append : (terms : List KeyValue) (runs : List (List ℕ)) (queries : List Query) (xs ys : List Step)
    (ms ns : List (Mark KeyValue)) → StandFor terms runs queries xs ms → StandFor terms runs queries ys ns
    → StandFor terms runs queries (xs ++ ys) (ms ++ ns)
stand_append terms runs queries xs ys ms ns f g =
    let mark = mark_of runs (map tree_of queries) in
    record {
      places = All-append (HasPlace (length runs) (length queries)) xs ys f.places g.places;
      decode =
          ap (decoded terms) (map-append mark xs ys) ∙ map-append (named (term_at terms)) (map mark xs) (map mark ys)
          ∙ ap (λ l. l ++ decoded terms (map mark ys)) f.decode ∙ ap (λ l. ms ++ l) g.decode;
    }

-- ---- adding

-- nothing
pub adds_nothing : (terms : List KeyValue) (runs new_runs : List (List ℕ)) (queries new_queries : List Query)
    (steps : List Step) → Grows runs new_runs → Grows queries new_queries
    → Adds terms runs queries steps new_runs new_queries steps []
adds_nothing terms runs new_runs queries new_queries steps g a = record {
  runs_grow = g;
  queries_grow = a;
  added = [];
  behind = sym (append-nil steps);
  stand = record { places = All-nil (HasPlace (length new_runs) (length new_queries)); decode = refl };
}

-- a step
pub adds_step : (terms : List KeyValue) (runs : List (List ℕ)) (queries : List Query) (steps new : List Step)
    (s : Step) (m : Mark KeyValue) → new ≡ steps ++ s ∷ [] → HasPlace (length runs) (length queries) s
    → named (term_at terms) (mark_of runs (map tree_of queries) s) ≡ m
    → Adds terms runs queries steps runs queries new (m ∷ [])
adds_step terms runs queries steps new s m e place is =
    let P = HasPlace (length runs) (length queries) in
    record {
      runs_grow = grows_not runs;
      queries_grow = grows_not queries;
      added = s ∷ [];
      behind = e;
      stand = record { places = All-cons P s [] place (All-nil P); decode = ap (λ x. x ∷ []) is };
    }

-- one after the other
pub adds_then : (terms : List KeyValue) (runs₀ runs₁ runs₂ : List (List ℕ)) (queries₀ queries₁ queries₂ : List Query)
    (steps₀ steps₁ steps₂ : List Step) (ms ns : List (Mark KeyValue))
    → Adds terms runs₀ queries₀ steps₀ runs₁ queries₁ steps₁ ms
    → Adds terms runs₁ queries₁ steps₁ runs₂ queries₂ steps₂ ns
    → Adds terms runs₀ queries₀ steps₀ runs₂ queries₂ steps₂ (ms ++ ns)
adds_then terms runs₀ runs₁ runs₂ queries₀ queries₁ queries₂ steps₀ steps₁ steps₂ ms ns f g = record {
  runs_grow = grows_then f.runs_grow g.runs_grow;
  queries_grow = grows_then f.queries_grow g.queries_grow;
  added = f.added ++ g.added;
  behind = g.behind ∙ ap (λ l. l ++ g.added) f.behind ∙ append_assoc steps₀ f.added g.added;
  stand = stand_append terms runs₂ queries₂ f.added g.added ms ns
      (stand_kept terms runs₁ runs₂ queries₁ queries₂ f.added ms g.runs_grow g.queries_grow f.stand) g.stand;
}

-- the same steps, behind others
pub adds_behind : {terms : List KeyValue} {runs new_runs : List (List ℕ)} {queries new_queries : List Query}
    {steps new_steps : List Step} {more : List (Mark KeyValue)}
    (f : Adds terms runs queries steps new_runs new_queries new_steps more) (others : List Step)
    → Adds terms runs queries others new_runs new_queries (others ++ f.added) more
adds_behind f others = record {
  runs_grow = f.runs_grow;
  queries_grow = f.queries_grow;
  added = f.added;
  behind =
      refl;
  stand = f.stand;
}

-- as many steps as marks
pub as_many : {terms : List KeyValue} {runs new_runs : List (List ℕ)} {queries new_queries : List Query}
    {steps new_steps : List Step} {more : List (Mark KeyValue)}
    (f : Adds terms runs queries steps new_runs new_queries new_steps more)
    → length f.added ≡ length more
as_many {terms} {runs} {new_runs} {queries} {new_queries} {steps} {new_steps} {more} f =
    let mark = mark_of new_runs (map tree_of new_queries) in
    sym (length-map f.added mark) ∙ sym (length-map (map mark f.added) (named (term_at terms)))
    ∙ ap length f.stand.decode

-- ---- leaves

pub adds_term : (terms : List KeyValue) (runs : List (List ℕ)) (queries : List Query) (steps new : List Step)
    (occur : Occur) (n : ℕ) (key : KeyValue) → new ≡ steps ++ step.Term occur n ∷ [] → term_at terms n ≡ key
    → Adds terms runs queries steps runs queries new (Leaf occur (Has key) ∷ [])
adds_term terms runs queries steps new occur n key e is = adds_step terms runs queries steps new (step.Term occur n)
    (Leaf occur (Has key)) e tt (ap (λ k. Leaf occur (Has k)) is)

pub adds_phrase : (terms : List KeyValue) (runs new_runs : List (List ℕ)) (queries : List Query)
    (steps new : List Step) (occur : Occur) (place : ℕ) (keys : List KeyValue) → Grows runs new_runs
    → place < length new_runs
    → map (term_at terms) (unwrap_or (slice_get new_runs place) []) ≡ keys
    → new ≡ steps ++ step.Phrase occur place ∷ [] → Adds terms runs queries steps new_runs queries new
    (Leaf occur (Run keys) ∷ [])
adds_phrase terms runs new_runs queries steps new occur place keys g inside is e =
    adds_then terms runs new_runs new_runs queries queries queries steps steps new [] (Leaf occur (Run keys) ∷ [])
    (adds_nothing terms runs new_runs queries queries steps g (grows_not queries))
    (adds_step terms new_runs queries steps new (step.Phrase occur place) (Leaf occur (Run keys)) e inside
    (ap (λ ks. Leaf occur (Run ks)) is))

pub adds_query : (terms : List KeyValue) (runs : List (List ℕ)) (queries new_queries : List Query)
    (steps new : List Step) (occur : Occur) (q : Query) (place : ℕ) → new_queries ≡ queries ++ q ∷ []
    → place ≡ length queries → new ≡ steps ++ step.Query occur place ∷ []
    → Adds terms runs queries steps runs new_queries new (Leaf occur (Is (tree_of q)) ∷ [])
adds_query terms runs queries new_queries steps new occur q place more at e =
    adds_then terms runs runs runs queries new_queries new_queries steps steps new []
    (Leaf occur (Is (tree_of q)) ∷ [])
    (adds_nothing terms runs runs queries new_queries steps (grows_not runs) (grows_by queries new_queries q more))
    (adds_step terms runs new_queries steps new (step.Query occur place) (Leaf occur (Is (tree_of q))) e
    (omega (arith, ap length more, length_push queries q))
    (ap (λ o. Leaf occur (Is (unwrap_or o Tree.All))) found))
  where
    found : slice_get (map tree_of new_queries) place ≡ Some (tree_of q)
    found =
        ap (λ l. slice_get (map tree_of l) place) more ∙ ap (λ l. slice_get l place) (map_push tree_of queries q)
        ∙ ap (slice_get (map tree_of queries ++ tree_of q ∷ [])) (at ∙ sym (length-map queries tree_of))
        ∙ get_last (map tree_of queries) (tree_of q)

-- ---- plans, with one more

steps_stand : {terms : List KeyValue} {runs new_runs : List (List ℕ)} {queries new_queries : List Query}
    {steps new_steps : List Step} {marks : List (Mark KeyValue)} → steps ≡ []
    → Adds terms runs queries steps new_runs new_queries new_steps marks
    → StandFor terms new_runs new_queries new_steps marks
steps_stand {terms} {runs} {new_runs} {queries} {new_queries} {steps} {new_steps} {marks} e f =
    subst (λ (l : List Step). StandFor terms new_runs new_queries l marks)
    (sym (f.behind ∙ ap (λ l. l ++ f.added) e)) f.stand

abbrev pub AllPlaced : List (List ℕ) → List Query → List (List Step) → Type 0
AllPlaced runs queries plans = All (All (HasPlace (length runs) (length queries))) plans

all_placed : {runs new_runs : List (List ℕ)} {queries new_queries : List Query} (plans : List (List Step))
    → Grows runs new_runs → Grows queries new_queries → AllPlaced runs queries plans
    → AllPlaced new_runs new_queries plans
all_placed {runs = runs} {new_runs = new_runs} {queries = queries} {new_queries = new_queries} plans g a h =
    All-weaker (All (HasPlace (length runs) (length queries))) (All (HasPlace (length new_runs) (length new_queries)))
    (λ steps. places_kept (length runs) (length queries) (length new_runs) (length new_queries) steps (longer g)
    (longer a)) plans h

pub places_pushed : {terms : List KeyValue} {runs new_runs : List (List ℕ)} {queries new_queries : List Query}
    {steps new_steps : List Step} {marks : List (Mark KeyValue)} (plans new : List (List Step)) (list : List Step)
    → steps ≡ []
    → Adds terms runs queries steps new_runs new_queries new_steps marks → AllPlaced runs queries plans
    → list ≡ new_steps → new ≡ plans ++ list ∷ [] → AllPlaced new_runs new_queries new
places_pushed {new_runs = new_runs} {new_queries = new_queries} plans new list none added h same e =
    let P = All (HasPlace (length new_runs) (length new_queries)) in
    subst (All P) (sym e) (All-push P plans list (all_placed plans added.runs_grow added.queries_grow h)
    (subst P (sym same) (steps_stand none added).places))

-- no plan was pushed, and runs and queries have grown
pub places_left : {runs new_runs : List (List ℕ)} {queries new_queries : List Query} (plans new : List (List Step))
    → Grows runs new_runs → Grows queries new_queries → AllPlaced runs queries plans → new ≡ plans
    → AllPlaced new_runs new_queries new
places_left {new_runs = new_runs} {new_queries = new_queries} plans new g a h same =
    subst (λ (ps : List (List Step)). AllPlaced new_runs new_queries ps) (sym same) (all_placed plans g a h)

-- plans as contracts see them
abbrev pub marked : List (List ℕ) → List Query → List (List Step) → List (List (Mark ℕ))
marked runs queries plans = map (map (mark_of runs (map tree_of queries))) plans

-- plans mean the same where their runs and queries grow
pub plans_kept : {runs new_runs : List (List ℕ)} {queries new_queries : List Query} (plans : List (List Step))
    → Grows runs new_runs → Grows queries new_queries → AllPlaced runs queries plans
    → marked new_runs new_queries plans ≡ marked runs queries plans
plans_kept [] g a h = refl
plans_kept {runs = runs} {new_runs = new_runs} {queries = queries} {new_queries = new_queries} (p ∷ ps) g a h =
    let P = All (HasPlace (length runs) (length queries)) in
    ap (λ m. m ∷ marked new_runs new_queries ps) (marks_kept runs new_runs queries new_queries p g a
    (All-head P p ps h))
    ∙ ap (λ ms. map (mark_of runs (map tree_of queries)) p ∷ ms) (plans_kept ps g a (All-tail P p ps h))

pub marks_pushed : {terms : List KeyValue} {runs new_runs : List (List ℕ)} {queries new_queries : List Query}
    {steps new_steps : List Step} {marks : List (Mark KeyValue)} (plans new : List (List Step)) (list : List Step)
    (old : List (List (Mark ℕ))) → steps ≡ []
    → Adds terms runs queries steps new_runs new_queries new_steps marks → AllPlaced runs queries plans
    → list ≡ new_steps → new ≡ plans ++ list ∷ [] → marked runs queries plans ≡ old
    → map (decoded terms) (marked new_runs new_queries new) ≡ map (decoded terms) old ++ marks ∷ []
marks_pushed {terms = terms} {new_runs = new_runs} {new_queries = new_queries} {marks = marks} plans new list old
    none added h same e view =
    let f = mark_of new_runs (map tree_of new_queries) in
    ap (λ l. map (decoded terms) (marked new_runs new_queries l)) e
    ∙ ap (map (decoded terms)) (map_push (map f) plans list)
    ∙ map_push (decoded terms) (marked new_runs new_queries plans) (map f list)
    ∙ ap (λ ms. map (decoded terms) ms ++ decoded terms (map f list) ∷ [])
    (plans_kept plans added.runs_grow added.queries_grow h ∙ view)
    ∙ ap (λ m. map (decoded terms) old ++ m ∷ []) (ap (λ l. decoded terms (map f l)) same
    ∙ (steps_stand none added).decode)
