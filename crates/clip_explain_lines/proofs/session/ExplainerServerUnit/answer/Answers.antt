use Rattle.std.proofs.Common.{refl}
use Rattle.clip_stream.proofs.Faults.{on_err}
use Rattle.clip_front.proofs.Progress.{answers_put, breaks_put, breaks_unwritten}
use Rattle.clip_explain_lines.specs.Steps.Explainers.{form_of}
use Rattle.clip_explain_lines.specs.Steps.Serving.{AnswersIn, BreaksIn}
use Rattle.clip_explain_lines.proofs.session.ExplainerServerUnit.answer.Goals as goal

pub returns-in_err-reply-clause-err : goal.returns-in_err-reply-clause-err
returns-in_err-reply-clause-err g c =
    on_err _ (breaks_unwritten (AnswersIn form_of) BreaksIn (c.args.self.now, c.args._lent.now) _ c.args._number
    c.args.bytes.now _ _ refl)

pub returns-clause-ok : goal.returns-clause-ok
returns-clause-ok g c =
    answers_put (AnswersIn form_of) (c.args.self.now, c.args._lent.now) _ c.args._number c.args.bytes.now
    c.in_ok-reply.reply.items _ _ _ _ _ (c.in_ok-reply.ensures, refl) (rw c.deref.ensures.value at c.put.ensures.moved)

pub returns-clause-err : goal.returns-clause-err
returns-clause-err g c =
    breaks_put (AnswersIn form_of) BreaksIn (c.args.self.now, c.args._lent.now) _ c.args._number c.args.bytes.now
    c.in_ok-reply.reply.items _ _ _ _ (c.in_ok-reply.ensures, refl) (rw c.deref.ensures.value at c.put.ensures.front)
