use Rattle.std.proofs.Common.{◌≡◌, ◌++◌, ◌∷◌, [], T, map, sym, subst, rules, of_calls}
use Rattle.std.specs.Arc.{arc_value}
use Rattle.std.specs.FinMap as finite
use Rattle.std.proofs.lemmas.List.Sorted.{IsPartitionPoint-from_clause}
use Rattle.clip_words.specs.Order.{bytes_cmp}
use Rattle.clip_registry.specs.Steps.Pieces.{AreFilled, IsPlaceFor, ends_below, joined}
use Rattle.clip_registry.proofs.Joining.{Shared, is_place, parted}
use Rattle.clip_registry.proofs.by_id.pieces.place_of.Goals as goal

pub returns-clause-found : goal.returns-clause-found
returns-clause-found c =
    let q = c.args.id.now in
    let n = c.partition_point.result in
    let front = c.in_ok-front.front.now in
    let last = c.in_ok-front.field-0-0.now in
    let whole : c.args.pieces.now ≡ front ++ last ∷ [] = c.in_ok-front.ensures.cases.0 in
    let sorted = subst (λ (xs : Shared). T (finite.is_sorted bytes_cmp (joined (map arc_value xs)))) whole
    c.requires.sorted in
    let filled = subst (λ (xs : Shared). AreFilled (map arc_value xs)) whole c.requires.filled in
    let point = IsPartitionPoint-from_clause (λ p. ends_below q (arc_value p)) front n
    c.partition_point.ensures.partitioned (parted q front (last ∷ []) sorted filled)
    (λ a r f k. search (rules, of_calls)) in
    subst (λ (xs : Shared). IsPlaceFor q (map arc_value xs) n) (sym whole)
    (is_place q front last n c.partition_point.ensures.bound point.0 point.1)
