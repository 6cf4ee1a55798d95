use Rattle.std.proofs.Common.{◌≤◌, length, flat_map, ap, sym, ◌∙◌, subst, arith}
use Rattle.std.specs.List.{list_any}
use Rattle.std.proofs.lemmas.List.{length-map}
use Rattle.clip_extract.specs.Keys.{is_same}
use Rattle.clip_extract.proofs.Order.{among_in_order}
use Rattle.clip_plan.specs.Plan.{decoded, plan_of}
use Rattle.clip_segment.specs.Index.{IsIndexOf, asked_of}
use Rattle.clip_segment.specs.Steps.IndexView.{index_of}
use Rattle.clip_segment.proofs.kept_terms.kept_heads.Goals as goal

pub returns-then-are_all_set-clause-asked : goal.returns-then-are_all_set-clause-asked
returns-then-are_all_set-clause-asked c = λ trees is key.
    let index = index_of c.index.inside in
    let inside : IsIndexOf trees index = subst (IsIndexOf trees) (sym c.index.view_is) is in
    let few : length trees ≤ c.len.result =
    omega (
      arith,
      c.len.ensures,
      ap length inside.plans,
      length-map index.plans (decoded index.terms),
      length-map trees plan_of,
    ) in
    ap (list_any (is_same key)) (c.in_ok-heads.ensures.all ∙ inside.terms)
    ∙ among_in_order (flat_map asked_of trees) key
    ∙ ap (λ ts. list_any (is_same key) (flat_map asked_of ts))
    (sym (c.are_all_set.ensures c.if-are_all_set.true trees few))
