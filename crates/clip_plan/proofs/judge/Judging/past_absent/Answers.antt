use Rattle.std.proofs.Common.{map, arith}
use Rattle.clip_grammar.specs.Tree.{tree_of}
use Rattle.clip_plan.proofs.Judging.{step_absent}
use Rattle.clip_plan.proofs.judge.Judging.past_absent.Goals as goal

pub loop-past-preserved : goal.loop-past-preserved
loop-past-preserved c =
    let judging = c.args.self.now in
    record {
      forward = omega (arith, c.loop-past.invariant.forward);
      leads = λ verdict marks top around same f.
          step_absent judging.runs.now (map tree_of judging.queries.now) judging.reading.now.terms
          judging.reading.now.article.fields verdict judging.steps.now marks c.loop-past.past _ top around
          c.loop-past-test.true
          (c.is_absent.ensures judging.runs.now (map tree_of judging.queries.now) c.if-is_absent.true) same
          (c.loop-past.invariant.leads verdict marks top around same f);
    }
