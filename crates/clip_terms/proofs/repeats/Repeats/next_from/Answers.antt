use Rattle.std.proofs.Common.{◌≡◌, false, drop, arith, ap, inl, inr, ◌∙◌}
use Rattle.std.proofs.lemmas.Bool.{cases_eq, cases_lt}
use Rattle.clip_terms.specs.Steps.Runs.{begins_with}
use Rattle.clip_terms.proofs.Repeating.{moved_short, moved_agrees, moved_nowhere, part_stands, past_end}
use Rattle.clip_terms.proofs.repeats.Repeats.next_from.Goals as goal

pub loop-at-preserved : goal.loop-at-preserved
loop-at-preserved c =
    let run = c.args.self.now.run.now in
    let numbers = c.args.numbers.now in
    let at = c.agreeing-at.result in
    let next = c.moved-at.result in
    let now = c.agreeing-at.ensures in
    let moves = c.moved-at.ensures in
    let here : begins_with run (drop at.start numbers) ≡ false =
    part_stands run numbers at (omega (arith, now.short, c.if-at-self.false))
    (now.no_more (omega (arith, now.short, c.if-at-self.false))) in
    record {
      from = omega (arith, c.loop-at.invariant.from, now.start, moves.start);
      short = omega (arith, moved_short run at next moves, now.short);
      agree = moved_agrees run numbers at next now.agree moves;
      nowhere = λ p past before.
          elim (cases_lt p at.start) [
            | inl less ↦ c.loop-at.invariant.nowhere p past (omega (arith, now.start))
            | inr ge ↦
                elim (cases_eq p at.start) [
                  | inl e ↦ ap (λ k. begins_with run (drop k numbers)) e ∙ here
                  | inr ne ↦ moved_nowhere run numbers at next now.agree now.short moves p (omega arith) before
                ]
          ];
    }

pub returns : goal.returns
returns c p past =
    elim (cases_lt p c.loop-at.at.start) [
      | inl less ↦ c.loop-at.invariant.nowhere p past less
      | inr ge ↦ past_end c.args.self.now.run.now c.args.numbers.now p c.requires.some
          (omega (arith, c.loop-at-test.false))
    ]
