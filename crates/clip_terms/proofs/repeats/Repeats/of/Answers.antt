use Rattle.std.proofs.Common.{ℕ, List, ◌≡◌, arith, subst, ◌∙◌}
use Rattle.clip_terms.specs.Steps.Repeats.{Moves, NoneBelow}
use Rattle.clip_terms.proofs.Repeating.{moved_returns, moved_least}
use Rattle.clip_terms.proofs.repeats.Repeats.of.Goals as goal

pub settle-requires-clause-room : goal.settle-requires-clause-room
settle-requires-clause-room c = omega (arith, c.loop-at.invariant.repeats.long, c.if-repeats-lt-MOST_SPANS.true)

pub loop-at-preserved : goal.loop-at-preserved
loop-at-preserved c =
    let run = c.args.run.now in
    let at = c.returning-at.result in
    let next = c.moved-at.result in
    let same : c.settle.new.self.run.now ≡ run = c.settle.ensures.run ∙ c.loop-at.invariant.run in
    let moves : Moves run at next = subst (λ (xs : List ℕ). Moves xs at next) same c.moved-at.ensures in
    let least : NoneBelow run at.start c.settle.new.self.known =
    subst (λ (xs : List ℕ). NoneBelow xs at.start c.settle.new.self.known) same c.settle.ensures.least in
    record {
      run = same;
      repeats = c.settle.ensures.repeats;
      some = omega (arith, moves.start);
      within = λ j lt. omega (arith, moves.start, moves.within j lt, c.returning-at.ensures.within);
      returns = moved_returns run at next c.returning-at.ensures.returns moves;
      least = moved_least run at next c.settle.new.self.known c.returning-at.ensures.returns moves
          c.settle.ensures.known least
          (c.returning-at.ensures.no_more (omega (arith, c.returning-at.ensures.within, c.if-at-run.false)));
    }
