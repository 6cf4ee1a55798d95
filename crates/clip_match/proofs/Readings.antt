-- How many positions are read.
use Rattle.std.proofs.Common.{◌≡◌, ℕ, ◌+◌, Bool, List, [], ◌∷◌, ◌++◌, cond, refl, ap, ◌∙◌, arith}
use Rattle.std.specs.List.{count_by, sum_by}
use Rattle.std.proofs.lemmas.List.{map-append}
use Rattle.std.proofs.lemmas.List.Sums.{sum_by-append, sum_by-cons}
use Rattle.clip_extract.specs.Extraction.{query_keys, second_keys}
use Rattle.clip_extract.specs.Keys.{KeyValue}
use Rattle.clip_model.specs.History.{Registered}
use Rattle.clip_segment.specs.Index.{has_key, positions_under}
use Rattle.clip_segment.specs.Segment.{trees_of}
use Rattle.clip_match.specs.Candidates.{under_keys}

sum_of_both : {A : Type 0} (f g : A → ℕ) (xs : List A) → sum_by (λ x. f x + g x) xs ≡ sum_by f xs + sum_by g xs
sum_of_both f g [] = refl
sum_of_both f g (x ∷ xs) =
    omega (arith, sum_by-cons (λ y. f y + g y) x xs, sum_by-cons f x xs, sum_by-cons g x xs, sum_of_both f g xs)

-- what passes tests, and what is behind it and does
tests_split : {A : Type 0} (test : KeyValue → A → Bool) (keys : List KeyValue) (xs ys : List A)
    → sum_by (λ key. count_by (test key) (xs ++ ys)) keys
    ≡ sum_by (λ key. count_by (test key) xs) keys + sum_by (λ key. count_by (test key) ys) keys
tests_split test keys xs ys =
    (λ i. sum_by (λ key. sum_by-append (λ x. cond (test key x) 1 0) xs ys i) keys)
    ∙ sum_of_both (λ key. count_by (test key) xs) (λ key. count_by (test key) ys) keys

-- the positions of a segment's entries, and of those behind them
pub keys_split : (keys : List KeyValue) (segment others : List Registered)
    → under_keys keys (segment ++ others) ≡ under_keys keys segment + under_keys keys others
keys_split keys segment others =
    let trees = map-append (λ (r : Registered). r.standing.tree) segment others in
    let first = ap (positions_under query_keys keys) trees
    ∙ tests_split (has_key query_keys) keys (trees_of segment) (trees_of others) in
    let second = ap (positions_under second_keys keys) trees
    ∙ tests_split (has_key second_keys) keys (trees_of segment) (trees_of others) in
    omega (arith, first, second)

nothing : {A : Type 0} (xs : List A) → sum_by (λ x. 0) xs ≡ 0
nothing [] = refl
nothing (x ∷ xs) = omega (arith, sum_by-cons (λ y. 0) x xs, nothing xs)

-- without entries there are none
pub nothing_under : (keys : List KeyValue) → under_keys keys [] ≡ 0
nothing_under keys =
    let first : positions_under query_keys keys (trees_of []) ≡ 0 = nothing keys in
    let second : positions_under second_keys keys (trees_of []) ≡ 0 = nothing keys in
    omega (arith, first, second)
