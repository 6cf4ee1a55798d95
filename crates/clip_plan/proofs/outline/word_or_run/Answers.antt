use Rattle.clip_plan.proofs.Outlines.{longer_run}
use Rattle.clip_plan.proofs.outline.word_or_run.Goals as goal

pub returns-in-len3-up : goal.returns-in-len3-up
returns-in-len3-up c = longer_run c.args.word c.args.run.now c.in-len3-up.len_at_least
