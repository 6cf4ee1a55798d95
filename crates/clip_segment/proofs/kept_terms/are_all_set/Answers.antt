use Rattle.std.proofs.Common.{ap, sym, ◌∙◌, arith}
use Rattle.std.specs.List.{list_all}
use Rattle.std.proofs.lemmas.Grind.{common_steps}
use Rattle.std.proofs.lemmas.List.{drop_all}
use Rattle.clip_segment.proofs.Flagged.{flagged_whole}
use Rattle.clip_segment.proofs.kept_terms.are_all_set.Goals as goal

-- found by this tactic: it stands here so that no other is tried before it
pub loop-flag-preserved : goal.loop-flag-preserved
loop-flag-preserved c = grind (arith, common_steps)

pub returns : goal.returns
returns c = λ is trees few.
    flagged_whole c.args.flags.now trees
    (sym c.loop-flag.invariant
    ∙ ap (list_all (λ flag. flag)) (drop_all c.loop-flag.flag-index c.args.flags.now c.loop-flag-test.false))
    (omega (arith, few, c.if-flags-count.false))
