use Rattle.std.proofs.Common.{refl}
use Rattle.clip_stream.proofs.Faults.{on_err}
use Rattle.clip_run.specs.Crews.{course}
use Rattle.clip_run.proofs.Owing.{hears_none, stops_none}
use Rattle.clip_run.proofs.crew.Crew.pay.Goals as goal

pub returns-in_err-gate-clause-err : goal.returns-in_err-gate-clause-err
returns-in_err-gate-clause-err g c =
    let here = course c.args.self.now (g.A.Audience.hearers c.args.audience.now) in
    on_err _ (stops_none here _ (g.W.Sink.taken c.args.flow.now.writer.now) c.args.flow.now.outbox.now
    (hears_none here _ refl))

pub returns-in_err-of-clause-err : goal.returns-in_err-of-clause-err
returns-in_err-of-clause-err g c =
    let here = course c.args.self.now (g.A.Audience.hearers c.args.audience.now) in
    on_err _ (stops_none here _ (g.W.Sink.taken c.args.flow.now.writer.now) c.args.flow.now.outbox.now
    (hears_none here _ refl))

pub returns-in_err-group-clause-err : goal.returns-in_err-group-clause-err
returns-in_err-group-clause-err g c =
    let here = course c.args.self.now (g.A.Audience.hearers c.args.audience.now) in
    on_err _ (stops_none here _ (g.W.Sink.taken c.args.flow.now.writer.now) c.args.flow.now.outbox.now
    (hears_none here _ refl))
