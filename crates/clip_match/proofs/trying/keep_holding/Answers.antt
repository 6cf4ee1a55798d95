use Rattle.std.proofs.Common.{arith, sym, ap, ◌∙◌}
use Rattle.std.proofs.Common.{take_all, filter}
use Rattle.std.proofs.lemmas.List.Elements.{All-get_or}
use Rattle.clip_meaning.specs.Meaning.{holds}
use Rattle.clip_match.specs.Steps.Positions.{entries_at, IsSharer}
use Rattle.clip_match.proofs.Tried.{left_out, taken_in}
use Rattle.clip_match.proofs.trying.keep_holding.Goals as goal

pub loop-position-preserved : goal.loop-position-preserved
loop-position-preserved c =
    let asked = c.args.reading.now in
    let i = c.loop-position.position-index in
    let sharer = All-get_or (IsSharer asked) c.args.positions.now i 0 c.loop-position-test.true c.requires in
    record {
      holding = ap (entries_at asked.entries) c.in_ok-push.ensures.items
          ∙ taken_in asked.entries (λ r. holds r.standing.tree asked.article.fields) c.args.positions.now
          c.loop-position.holding.items i c.loop-position-test.true
          (λ entry there. sym c.if-not-branch.false ∙ c.in_ok-holds.ensures.held entry there (λ _. sharer entry there))
          c.loop-position.invariant.holding;
      judged = omega (arith, c.in_ok-holds.ensures.counted, c.loop-position.invariant.judged);
    }

pub loop-position-preserved-then-not-branch : goal.loop-position-preserved-then-not-branch
loop-position-preserved-then-not-branch c =
    let asked = c.args.reading.now in
    let i = c.loop-position.position-index in
    let sharer = All-get_or (IsSharer asked) c.args.positions.now i 0 c.loop-position-test.true c.requires in
    record {
      holding = left_out asked.entries (λ r. holds r.standing.tree asked.article.fields) c.args.positions.now
          c.loop-position.holding.items i c.loop-position-test.true
          (λ entry there. sym c.if-not-branch.true ∙ c.in_ok-holds.ensures.held entry there (λ _. sharer entry there))
          c.loop-position.invariant.holding;
      judged = omega (arith, c.in_ok-holds.ensures.counted, c.loop-position.invariant.judged);
    }

pub returns-clause-holding : goal.returns-clause-holding
returns-clause-holding c =
    c.loop-position.invariant.holding
    ∙ ap (λ ps. filter (λ r. holds r.standing.tree c.args.reading.now.article.fields)
    (entries_at c.args.reading.now.entries ps))
    (take_all c.loop-position.position-index c.args.positions.now c.loop-position-test.false)
