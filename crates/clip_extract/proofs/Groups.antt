-- A group's keys and weight, clause by clause.
use Rattle.std.proofs.Common.{◌≡◌, ℕ, suc, ◌+◌, ◌<◌, ◌≤◌, add-one, drop-cons, Bool, true, false, cond, ltb, min, max}
use Rattle.std.proofs.Common.{List, [], ◌∷◌, ◌++◌, map, length, drop, take, get_or, fold, Option, Some, None, unwrap_or}
use Rattle.std.proofs.Common.{Vec, Global, refl, sym, ap, ◌∙◌, arith}
use Rattle.std.proofs.lemmas.List.{drop_all, take_at, drop_at}
use Rattle.std.proofs.lemmas.List.Folds.{fold_along}
use Rattle.std.proofs.lemmas.Bool.{false≢true, ltb-true, ltb-false}
use Rattle.clip_grammar.specs.declared.query.Occur.{Occur}
use Rattle.clip_grammar.specs.declared.query.Occur.TheVariants.{Must, Should, MustNot}
use Rattle.clip_grammar.specs.declared.query.Query.{Query}
use Rattle.clip_grammar.specs.declared.query.Query.TheViews.{Group}
use Rattle.clip_grammar.specs.Tree.{clauses_of, tree_of}
use Rattle.clip_grammar.proofs.Trees.{tree_of_group}
use Rattle.clip_extract.specs.Keys.{KeyValue}
use Rattle.clip_extract.specs.Extraction.{Extracted, unnarrowed, heavier, together, heaviest, musts, shoulds}
use Rattle.clip_extract.specs.Extraction.{group_extract, extract, extracts}
use Rattle.clip_extract.specs.Steps.Groups.{group_with, group_from, next_found, counts, kept}
use Rattle.clip_extract.specs.declared.extraction.FoundInGroup.{FoundInGroup}
use Rattle.clip_extract.specs.declared.extraction.FoundInGroup.TheVariants.{Nothing, Optional, Required}

-- ---- clause by clause

-- before the first clause
pub group_start : (ks : List KeyValue) (cs : List (Occur × Extracted)) → group_from Nothing ks cs ≡ group_extract cs
unfolding group_with group_extract
group_start ks cs = refl

-- a clause that does not count
pub skipped : (found : FoundInGroup) (occur : Occur) (ks : List KeyValue) (e : Extracted)
    (cs : List (Occur × Extracted)) → counts found occur ≡ false
    → group_from found ks ((occur, e) ∷ cs) ≡ group_from found ks cs
unfolding group_with
skipped found Must ks e cs not_so = absurd (false≢true (sym not_so))
skipped Nothing Should ks e cs not_so = absurd (false≢true (sym not_so))
skipped (Optional w) Should ks e cs not_so = absurd (false≢true (sym not_so))
skipped (Required w) Should ks e cs not_so = refl
skipped Nothing MustNot ks e cs not_so = refl
skipped (Optional w) MustNot ks e cs not_so = refl
skipped (Required w) MustNot ks e cs not_so = refl

abbrev with_weight : List KeyValue → ℕ → Extracted
with_weight keys weight = record { keys = keys; weight = weight }

heavier_kept : (best w : ℕ) (ks ls : List KeyValue)
    → heavier (record { keys = ks; weight = best }) (record { keys = ls; weight = w })
    ≡ record { keys = cond (ltb best w) ls ks; weight = max best w }
heavier_kept best w ks ls = at (ltb best w) refl
  where
    at : (t : Bool) → ltb best w ≡ t
        → ◌≡◌ {A = Extracted} (cond t (record { keys = ls; weight = w }) (record { keys = ks; weight = best }))
        (record { keys = cond t ls ks; weight = max best w })
    at true e = let lt : best < w = ltb-true best w e in let m : w ≡ max best w = omega arith in
        ap (λ n. with_weight ls n) m
    at false e = let le : w ≤ best = ltb-false best w e in let m : best ≡ max best w = omega arith in
        ap (λ n. with_weight ks n) m

-- a clause that counts
pub counted : (found : FoundInGroup) (occur : Occur) (w : ℕ) (ks ls : List KeyValue) (cs : List (Occur × Extracted))
    → counts found occur ≡ true → (found ≡ Nothing → ks ≡ [])
    → group_from found ks ((occur, record { keys = ls; weight = w }) ∷ cs)
    ≡ group_from (next_found found occur w) (kept found occur w ks ls) cs
unfolding group_with
counted Nothing Must w ks ls cs _ empty = refl
counted Nothing Should w ks ls cs _ empty =
    ap (λ keys. group_from (Optional w) keys cs) (ap (λ xs. xs ++ ls) (sym (empty refl)))
counted (Optional least) Must w ks ls cs _ empty = refl
counted (Optional least) Should w ks ls cs _ empty = refl
counted (Required best) Must w ks ls cs so empty = ap (λ e. fold heavier e (musts cs)) (heavier_kept best w ks ls)
counted (Required best) Should w ks ls cs so empty = absurd (false≢true so)
counted Nothing MustNot w ks ls cs so empty = absurd (false≢true so)
counted (Optional least) MustNot w ks ls cs so empty = absurd (false≢true so)
counted (Required best) MustNot w ks ls cs so empty = absurd (false≢true so)

-- something stands then
pub something : (found : FoundInGroup) (occur : Occur) (w : ℕ) → counts found occur ≡ true
    → next_found found occur w ≡ Nothing → ⊥
something Nothing Must w so e = cc
something Nothing Should w so e = cc
something Nothing MustNot w so e = absurd (false≢true so)
something (Optional least) Must w so e = cc
something (Optional least) Should w so e = cc
something (Optional least) MustNot w so e = absurd (false≢true so)
something (Required best) Must w so e = cc
something (Required best) Should w so e = absurd (false≢true so)
something (Required best) MustNot w so e = absurd (false≢true so)

-- ---- the weight says nothing of keys

heavier_alike : (a b x : Extracted) → a.weight ≡ b.weight → (heavier a x).weight ≡ (heavier b x).weight
heavier_alike a b x e = heavier_weight a x ∙ ap (λ w. cond (ltb w x.weight) x.weight w) e ∙ sym (heavier_weight b x)
  where
    picked : (t : Bool) (a x : Extracted) → (cond t x a).weight ≡ cond t x.weight a.weight
    picked true a x = refl
    picked false a x = refl

    heavier_weight : (a x : Extracted) → (heavier a x).weight ≡ cond (ltb a.weight x.weight) x.weight a.weight
    heavier_weight a x = picked (ltb a.weight x.weight) a x

pub alike : (found : FoundInGroup) (ks ls : List KeyValue) (cs : List (Occur × Extracted))
    → (group_from found ks cs).weight ≡ (group_from found ls cs).weight
unfolding group_with
alike Nothing ks ls cs = refl
alike (Required w) ks ls cs =
    fold_along heavier heavier (λ a b. a.weight ≡ b.weight) (λ a b x e. heavier_alike a b x e) (record {
      keys =
          ks;
      weight = w;
    }) (record { keys = ls; weight = w }) (musts cs) refl
alike (Optional w) ks ls cs =
    picked (heaviest (musts cs)) _ _
    (fold_along together together (λ a b. a.weight ≡ b.weight) (λ a b x e. ap (λ w. min w x.weight) e)
    (record { keys = ks; weight = w }) (record { keys = ls; weight = w }) (shoulds cs) refl)
  where
    picked : (o : Option Extracted) (a b : Extracted) → a.weight ≡ b.weight
        → (unwrap_or o a).weight ≡ (unwrap_or o b).weight
    picked None a b e = e
    picked (Some x) a b e = refl

-- the weight with one clause more, whatever the keys
pub next_weight : (found : FoundInGroup) (occur : Occur) (e : Extracted) (ks ls : List KeyValue)
    (cs : List (Occur × Extracted)) → counts found occur ≡ true → (group_from found ks ((occur, e) ∷ cs)).weight
    ≡ (group_from (next_found found occur e.weight) ls cs).weight
next_weight found occur e ks ls cs so =
    alike found ks [] ((occur, e) ∷ cs) ∙ ap (λ x. x.weight) (counted found occur e.weight [] e.keys cs so (λ _. refl))
    ∙ alike (next_found found occur e.weight) (kept found occur e.weight [] e.keys) ls cs

-- ---- the clauses of a group

-- each clause with what is extracted of its child
abbrev pub extracts_of : List (Occur × Query) → List (Occur × Extracted)
extracts_of cs = map (λ c. (c.0, extract (tree_of c.1))) cs

pub extracts_map : (cs : List (Occur × Query)) → extracts (clauses_of (map (λ c. (c.0, tree_of c.1)) cs))
    ≡ extracts_of cs
extracts_map [] = refl
extracts_map (c ∷ cs) = ap (λ es. (c.0, extract (tree_of c.1)) ∷ es) (extracts_map cs)

pub extract_group : (v : Vec (Occur × Query) Global) → extract (tree_of (Group v)) ≡ group_extract (extracts_of v.items)
extract_group v = ap extract (tree_of_group v) ∙ ap group_extract (extracts_map v.items)

-- the next clause comes first
pub next_extract : (cs : List (Occur × Query)) (i : ℕ) (c : Occur × Query) → i < length cs → c ≡ get_or cs i c
    → extracts_of (drop i cs) ≡ (c.0, extract (tree_of c.1)) ∷ extracts_of (drop (i + 1) cs)
next_extract cs i c lt is =
    ap extracts_of (drop-cons cs i c lt)
    ∙ ap (λ x. (x.0, extract (tree_of x.1)) ∷ extracts_of (drop (suc i) cs)) (sym is)
    ∙ ap (λ j. (c.0, extract (tree_of c.1)) ∷ extracts_of (drop j cs)) (sym (add-one i))

-- a turn: `ys` are the keys with those of the clause's child, `zs` those that are kept
pub turn : (found : FoundInGroup) (occur : Occur) (w : ℕ) (xs ys zs : List KeyValue) (start middle : ℕ) (e : Extracted)
    (cs : List (Occur × Extracted))
    → counts found occur ≡ true → (found ≡ Nothing → length xs ≡ start) → length xs ≡ middle → ys ≡ xs ++ e.keys
    → w ≡ e.weight
    → drop start zs ≡ kept found occur w (drop start (take middle ys)) (drop middle ys)
    → group_from (next_found found occur w) (drop start zs) cs ≡ group_from found (drop start xs) ((occur, e) ∷ cs)
turn found occur w xs ys zs start middle e cs so empty long added weight is =
    let before : take middle ys ≡ xs = ap (take middle) added ∙ take_at xs e.keys middle long in
    let more : drop middle ys ≡ e.keys = ap (drop middle) added ∙ drop_at xs e.keys middle long in
    ap (λ ks. group_from (next_found found occur w) ks cs) (is
    ∙ ap (λ ks. kept found occur w (drop start ks) (drop middle ys)) before
    ∙ ap (kept found occur w (drop start xs)) more)
    ∙ sym (counted found occur w (drop start xs) e.keys cs so (λ n. drop_all start xs (omega (arith, empty n))))
    ∙ ap (λ n. group_from found (drop start xs) ((occur, record { keys = e.keys; weight = n }) ∷ cs)) weight

-- ---- the end

pub group_end : (found : FoundInGroup) (ks : List KeyValue) (cs : List (Occur × Query)) (i : ℕ) (e : Extracted)
    → length cs ≤ i → group_from found ks (extracts_of (drop i cs)) ≡ e → e ≡ group_from found ks []
group_end found ks cs i e le is = sym is ∙ ap (λ xs. group_from found ks (extracts_of xs)) (drop_all i cs le)

pub nothing_found : (ks : List KeyValue) → group_from Nothing ks [] ≡ unnarrowed
unfolding group_with
nothing_found ks = refl

pub keys_found : (found : FoundInGroup) (ks : List KeyValue) → (found ≡ Nothing → ⊥)
    → (group_from found ks []).keys ≡ ks
unfolding group_with
keys_found Nothing ks some = absurd (some refl)
keys_found (Optional w) ks some = refl
keys_found (Required w) ks some = refl
