use Rattle.std.proofs.Common.{refl}
use Rattle.clip_stream.proofs.Faults.{on_err}
use Rattle.clip_front.proofs.Progress.{answers_put, breaks_put, breaks_unwritten}
use Rattle.clip_trace.specs.Steps.TraceServer.{stand_at}
use Rattle.clip_trace.specs.Steps.TraceOutline.{AnswersIn, BreaksIn}
use Rattle.clip_trace.proofs.trace_session.TraceServerServerUnit.answer.Goals as goal

pub returns-in_err-text-clause-err : goal.returns-in_err-text-clause-err
returns-in_err-text-clause-err g c =
    on_err _ (breaks_unwritten (AnswersIn stand_at) BreaksIn (c.args.self.now, c.args._lent.now) _ c.args.number
    c.args.bytes.now _ _ refl)

pub returns-clause-ok : goal.returns-clause-ok
returns-clause-ok g c = answers_put (AnswersIn stand_at) (c.args.self.now, c.args._lent.now) _ c.args.number
    c.args.bytes.now c.in_ok-text.text.items _ _ _ _ _ c.in_ok-text.ensures
    (rw c.deref.ensures.value at c.put.ensures.moved)

pub returns-clause-err : goal.returns-clause-err
returns-clause-err g c =
    breaks_put (AnswersIn stand_at) BreaksIn (c.args.self.now, c.args._lent.now) _ c.args.number c.args.bytes.now
    c.in_ok-text.text.items _ _ _ _ c.in_ok-text.ensures (rw c.deref.ensures.value at c.put.ensures.front)
