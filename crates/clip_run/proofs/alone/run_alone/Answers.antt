use Rattle.std.proofs.Common.{ap, map}
use Rattle.clip_run.specs.Ran.{told}
use Rattle.clip_run.proofs.Outcomes.{ran_from_nothing}
use Rattle.clip_run.proofs.alone.run_alone.Goals as goal

pub returns : goal.returns
returns g c =
    let r = c.run_alone_again in
    let ran = ran_from_nothing _ c.args.settings
    (told g.R.Source g.W.Sink g.A.Audience c.args.reader.now c.args.writer.now c.args.audience.now)
    (told g.R.Source g.W.Sink g.A.Audience r.new.reader r.new.writer r.new.audience) r.result
    (ap (map (λ line. line.items)) c.new.ensures.items) r.ensures in
    record { outcome = ran.outcome; honest = ran.honest; front = ran.front; none_held = ran.none_held }
