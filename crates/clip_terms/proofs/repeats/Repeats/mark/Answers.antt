use Rattle.std.proofs.Common.{arith}
use Rattle.clip_terms.specs.Steps.Repeats.{IsNext}
use Rattle.clip_terms.proofs.Repeating.{moved_short, moved_agrees, moved_nowhere, whole_stands}
use Rattle.clip_terms.proofs.MarkedRuns.{marked_more, marked_end}
use Rattle.clip_terms.proofs.repeats.Repeats.mark.Goals as goal

pub loop-found-preserved : goal.loop-found-preserved
loop-found-preserved c =
    let run = c.args.self.now.run.now in
    let numbers = c.args.numbers.now in
    let at = c.loop-found.at in
    let found = c.in-Some.found in
    let next = c.moved-at.result in
    let moves = c.moved-at.ensures in
    let is : IsNext run numbers at found = c.in-Some.ensures in
    record {
      short = omega (arith, moved_short run found next moves, is.whole);
      agree = moved_agrees run numbers found next is.agree moves;
      marked = marked_more run numbers c.args.flags.now c.loop-found.flags c.raise.new.self at.start c.loop-found.end
          found.start c.max-start.result next.start c.requires.some c.loop-found.invariant.marked
          is.from is.nowhere (whole_stands run numbers found is.agree is.whole)
          (omega (arith, moves.start, moves.some))
          (moved_nowhere run numbers found next is.agree (omega (arith, is.whole)) moves)
          c.max-start.ensures c.raise.ensures.long c.raise.ensures.raised;
    }

pub returns-clause-raised : goal.returns-clause-raised
returns-clause-raised c k lt =
    marked_end c.args.self.now.run.now c.args.numbers.now c.args.flags.now c.loop-found.flags c.loop-found.at
    c.loop-found.end c.next_from.result c.loop-found.invariant.marked c.in_default.is c.next_from.ensures k lt
