use Rattle.std.proofs.Common.{filter, length, ap, ◌∙◌, arith}
use Rattle.clip_meaning.specs.Meaning.{holds}
use Rattle.clip_model.specs.History.{Registered}
use Rattle.clip_match.specs.Steps.Positions.{entries_at}
use Rattle.clip_match.proofs.Judgings.{held_few}
use Rattle.clip_match.proofs.trying.Room.judge_segment.Goals as goal

pub returns-clause-holding : goal.returns-clause-holding
returns-clause-holding c =
    let entries = c.args.reading.now.entries in
    let held = λ (r : Registered). holds r.standing.tree c.args.reading.now.article.fields in
    c.in_ok-keep_holding.ensures.holding
    ∙ ap (λ ps. filter held (entries_at entries ps)) c.deref-2.ensures.value
    ∙ c.in_ok-keep_possible.ensures.holding
    ∙ ap (λ ps. filter held (entries_at entries ps)) c.deref.ensures.value
    ∙ c.in_ok-asked.ensures.positions

pub returns-clause-most : goal.returns-clause-most
returns-clause-most c =
    omega (
      arith,
      c.in_ok-keep_holding.ensures.judged,
      ap length c.deref-2.ensures.value,
      c.in_ok-keep_possible.ensures.few,
      ap length c.deref.ensures.value,
      c.in_ok-asked.ensures.few,
    )

pub returns-clause-least : goal.returns-clause-least
returns-clause-least c =
    let held = λ (r : Registered). holds r.standing.tree c.args.reading.now.article.fields in
    omega (
      arith,
      c.in_ok-keep_holding.ensures.judged,
      ap length c.in_ok-keep_holding.ensures.holding,
      held_few held c.args.reading.now.entries c.deref-2.result.now,
    )
