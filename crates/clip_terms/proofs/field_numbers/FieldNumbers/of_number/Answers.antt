use Rattle.std.proofs.Common.{ℕ, List, Option, drop, rules, of_calls, ap, ◌∙◌, sym, subst}
use Rattle.std.proofs.lemmas.List.Sorted.{IsPartitionPoint-from_clause}
use Rattle.clip_terms.specs.declared.field_numbers.Spot.{Spot}
use Rattle.clip_terms.specs.Steps.FieldNumbers.{AreSpotsOf, HasEach}
use Rattle.clip_terms.proofs.SpotsOfFields.{below, upto, below_first, upto_first, rise_after, number_spots}
use Rattle.clip_terms.proofs.field_numbers.FieldNumbers.of_number.Goals as goal

pub returns : goal.returns
returns c =
    let n = c.args.number in
    let inside = c.self.inside in
    let spots = c.deref.result.now in
    let rest = c.split_at.result.1.now in
    let found = c.split_at-2.result.0.now in
    let start = c.partition_point-start.result in
    let count = c.partition_point-count.result in
    let are : AreSpotsOf inside.numbers.items spots =
    subst (AreSpotsOf inside.numbers.items) (sym c.deref.ensures.value) c.self.invariant in
    let after = c.split_at.ensures.back
    ∙ ap (λ (xs : List Spot). drop start xs) (c.deref-2.ensures.value ∙ sym c.deref.ensures.value) in
    let lower = IsPartitionPoint-from_clause (below n) spots start c.partition_point-start.ensures.partitioned
    (below_first n spots are.rise) (λ a r f k. search (rules, of_calls)) in
    let upper = IsPartitionPoint-from_clause (upto n) rest count c.partition_point-count.ensures.partitioned
    (upto_first n rest (rise_after start spots rest are.rise after)) (λ a r f k. search (rules, of_calls)) in
    subst (λ (ns : List (Option ℕ)). HasEach ns n found) c.self.view_is
    (number_spots inside.numbers.items spots rest found n start count are c.partition_point-start.ensures.bound lower
    after c.partition_point-count.ensures.bound upper c.split_at-2.ensures.front)
