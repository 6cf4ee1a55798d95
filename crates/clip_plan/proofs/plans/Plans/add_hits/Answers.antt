use Rattle.std.proofs.Common.{◌++◌, ◌≤◌, ap, sym, ◌∙◌, arith, length, map, take}
use Rattle.std.specs.Prelude.{unwrap_or, slice_get, []}
use Rattle.std.specs.FinMap as finite
use Rattle.std.specs.List.{flat_map}
use Rattle.std.proofs.lemmas.List.{append_assoc, take_all, length-map}
use Rattle.clip_meaning.specs.Hits.{hit_value, hits, hits_in}
use Rattle.clip_terms.specs.Spots.{SpotsValue, spots_among}
use Rattle.clip_plan.specs.Plan.{decoded}
use Rattle.clip_plan.proofs.Named.{field_more}
use Rattle.clip_plan.proofs.plans.Plans.add_hits.Goals as goal

pub loop-of_field-preserved : goal.loop-of_field-preserved
loop-of_field-preserved c = λ tree terms fields are plan.
    let steps = unwrap_or (slice_get c.args.self.now c.args.place) [] in
    let next = field_more (spots_among terms) (hits_in tree) fields c.args.spots.now c.loop-of_field.of_field-index
    c.of_field-item.result are c.loop-of_field-test.true c.of_field-item.is in
    let before = map hit_value c.args.found.now.items in
    let now = hits_in tree c.of_field-item.result.field in
    let so_far = flat_map (hits_in tree) (take c.loop-of_field.of_field-index fields) in
    c.in_ok-add_hits_in.ensures tree (ap (λ (s : SpotsValue). decoded s.terms steps) next.1 ∙ plan)
    ∙ ap (λ xs. xs ++ now) (c.loop-of_field.invariant tree terms fields are plan)
    ∙ append_assoc before so_far now
    ∙ ap (λ xs. before ++ xs) (ap (λ (s : SpotsValue). so_far ++ hits_in tree s.field) next.1 ∙ sym next.2)

pub returns : goal.returns
unfolding hits
returns c = λ tree terms fields are plan.
    let entries = finite.entries fields in
    let all : length entries ≤ c.loop-of_field.of_field-index =
    omega (arith, c.loop-of_field-test.false, ap length are, length-map entries (spots_among terms)) in
    c.loop-of_field.invariant tree terms entries are plan
    ∙ ap (λ xs. map hit_value c.args.found.now.items ++ flat_map (hits_in tree) xs)
    (take_all c.loop-of_field.of_field-index entries all)
