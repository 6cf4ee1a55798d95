use Rattle.std.proofs.Common.{◌<◌, ◌++◌, ◌∷◌, [], length, flat_map, get_or, ap, sym, ◌∙◌, arith}
use Rattle.std.proofs.lemmas.List.{map_more}
use Rattle.std.proofs.lemmas.Option.{unwrap_or-slice_get}
use Rattle.std.proofs.lemmas.Grind.{common_steps}
use Rattle.clip_extract.specs.Keys.{Any}
use Rattle.clip_segment.specs.Steps.Parts.{taken}
use Rattle.clip_segment.proofs.index_selecting.taken_lists.Goals as goal

pub loop-number-preserved : goal.loop-number-preserved
loop-number-preserved c = λ under all.
    let terms = c.args.terms.now in
    let n = c.loop-number.number in
    let lt : n < length terms = omega arith in
    c.in_ok-push.ensures.ok
    ∙ ap (λ l. c.loop-number.lists ++ l ∷ [])
    (c.deref.ensures.value ∙ c.in_ok-add_all_taken.ensures
    ∙ ap (λ l. l ++ flat_map (taken c.args.second n) c.args.sources.now) c.clear.ensures.items
    ∙ all n lt ∙ ap under (unwrap_or-slice_get terms n Any))
    ∙ ap (λ l. l ++ under (get_or terms n Any) ∷ []) (c.loop-number.invariant under all)
    ∙ sym (map_more under terms n Any lt)

-- found by this tactic: it stands here so that no other is tried before it
pub returns : goal.returns
returns c = grind (arith, common_steps)
