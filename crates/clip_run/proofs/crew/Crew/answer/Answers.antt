use Rattle.std.proofs.Common.{[], inl}
use Rattle.std.proofs.lemmas.Result.{on_err_weaker, on_ok_weaker}
use Rattle.clip_stream.proofs.Faults.{on_err}
use Rattle.clip_stream.proofs.Flows.{handed_none}
use Rattle.clip_front.proofs.Progress.{breaks_unwritten}
use Rattle.clip_run.specs.Crews.{course, course_at}
use Rattle.clip_run.specs.Owed.{BreaksIn, TurnsIn}
use Rattle.clip_run.proofs.Owing.{turns_paid, breaks_turned}
use Rattle.clip_run.proofs.crew.Crew.answer.Goals as goal

pub returns-in_err-take-clause-err : goal.returns-in_err-take-clause-err
returns-in_err-take-clause-err g c =
    let view = course_at g.A.Audience.hearers in
    on_err _ (breaks_unwritten (TurnsIn view) (BreaksIn view) (c.args.self.now, c.args.audience.now) (
      c.take.new.self,
      c.args.audience.now,
    ) c.args.number c.args.bytes.now (g.W.Sink.taken c.args.flow.now.writer.now)
    c.args.flow.now.outbox.now c.in_err-take.ensures.err)

pub returns-then-self-lt-MOST_WAITING-clause-ok : goal.returns-then-self-lt-MOST_WAITING-clause-ok
returns-then-self-lt-MOST_WAITING-clause-ok g c =
    record {
      text = [];
      answered = c.in_ok-take.ensures.ok;
      handed =
          handed_none (g.W.Sink.taken c.args.flow.now.writer.now) c.args.flow.now.outbox.now;
    }

pub returns-clause-ok : goal.returns-clause-ok
returns-clause-ok g c =
    let hearers = g.A.Audience.hearers in
    on_ok_weaker c.pay.result
    (λ p. record {
      text = p.text;
      answered = turns_paid (course c.args.self.now (hearers c.args.audience.now))
          (course c.take.new.self (hearers c.args.audience.now)) (course c.pay.new.self (hearers c.pay.new.audience))
          c.args.number c.args.bytes.now p.text c.in_ok-take.ensures.ok p.pays;
      handed = p.handed;
    })
    c.pay.ensures.ok

pub returns-clause-err : goal.returns-clause-err
returns-clause-err g c =
    let hearers = g.A.Audience.hearers in
    on_err_weaker c.pay.result
    (λ p. record {
      text = p.text;
      broken = inl (breaks_turned (course c.args.self.now (hearers c.args.audience.now))
          (course c.take.new.self (hearers c.args.audience.now)) (course c.pay.new.self (hearers c.pay.new.audience))
          c.args.number c.args.bytes.now [] p.text c.in_ok-take.ensures.ok p.broken);
      written = p.written;
    })
    c.pay.ensures.err
