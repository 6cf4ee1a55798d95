use Rattle.std.proofs.Common.{◌++◌, [], ◌∷◌, map, take, sym, ap, ◌∙◌}
use Rattle.std.proofs.lemmas.List.{map_more}
use Rattle.clip_plan.specs.Plan.{renumbered}
use Rattle.clip_plan.proofs.renaming.renumbered_run.Goals as goal

pub loop-number-preserved : goal.loop-number-preserved
loop-number-preserved c =
    let numbers = c.args.numbers.now in
    let run = c.args.run.now in
    let i = c.loop-number.number-index in
    c.in_ok-push.ensures.items
    ∙ ap (λ new. new ++ c.renumber.result ∷ []) c.loop-number.invariant
    ∙ ap (λ n. map (renumbered numbers) (take i run) ++ n ∷ []) c.renumber.ensures
    ∙ sym (map_more (renumbered numbers) run i _ c.loop-number-test.true)
