use Rattle.std.proofs.Common.{[], refl, sym, ap, inl, inr, append-nil, ◌∙◌}
use Rattle.clip_stream.proofs.Faults.{on_err}
use Rattle.clip_protocol.specs.LineMeaning.{matching}
use Rattle.clip_protocol.specs.Reply.{reply}
use Rattle.clip_front.specs.Steps.Answers.{BreaksIn}
use Rattle.clip_front.proofs.Progress.{answers_put, breaks_put, breaks_unwritten}
use Rattle.clip_front.proofs.Responses.{answers_quiet, answers_matched, breaks_untold, breaks_matched}
use Rattle.clip_run.specs.RunServer.{AnswersAlone, held_at}
use Rattle.clip_run.proofs.AnsweredAlone.{both_ok, both_err}
use Rattle.clip_run.proofs.Found.{goes_on_owed}
use Rattle.clip_run.proofs.Settled.{waits_alone}
use Rattle.clip_run.proofs.alone.RunServerServer.answer.Goals as goal

pub returns-in_err-text-clause-err : goal.returns-in_err-text-clause-err
returns-in_err-text-clause-err g c =
    let hearers = g.A.Audience.hearers in
    on_err _ (breaks_unwritten (AnswersAlone hearers) (BreaksIn (held_at hearers)) (
      c.args.self.now,
      c.args.audience.now,
    ) _ c.args.number c.args.bytes.now _ _
    (breaks_untold _ _ _ _ _ c.args.number c.args.bytes.now))

pub returns-in_err-view-in-Match-clause-err : goal.returns-in_err-view-in-Match-clause-err
returns-in_err-view-in-Match-clause-err g c =
    let hearers = g.A.Audience.hearers in
    on_err _ (breaks_unwritten (AnswersAlone hearers) (BreaksIn (held_at hearers)) (
      c.args.self.now,
      c.args.audience.now,
    ) _ c.args.number c.args.bytes.now _ _
    (breaks_untold _ _ _ _ _ c.args.number c.args.bytes.now))

pub returns-in-Reply-clause-ok : goal.returns-in-Reply-clause-ok
returns-in-Reply-clause-ok g c =
    let hearers = g.A.Audience.hearers in
    let taken = rw c.in-Reply.is at c.in_ok-text.ensures.taken in
    answers_put (AnswersAlone hearers) (c.args.self.now, c.args.audience.now) _ c.args.number c.args.bytes.now
    c.in-Reply.text.items _ _ _ _ _
    (record {
      answers = answers_quiet (hearers c.args.audience.now) c.args.self.now.giver.books
          c.args.self.now.registry.registrar.history c.take_line.new.registry.registrar.history c.args.number
          c.args.bytes.now c.in-Reply.text.items taken;
      asked = c.take_line.new.registry;
      purges = c.in_ok-text.ensures.purged;
      merges = inl refl;
    })
    (rw c.deref.ensures.value at c.put.ensures.moved)

pub returns-in-Reply-clause-err : goal.returns-in-Reply-clause-err
returns-in-Reply-clause-err g c =
    let hearers = g.A.Audience.hearers in
    let taken = rw c.in-Reply.is at c.in_ok-text.ensures.taken in
    breaks_put (AnswersAlone hearers) (BreaksIn (held_at hearers)) (c.args.self.now, c.args.audience.now) _
    c.args.number c.args.bytes.now c.in-Reply.text.items _ _ _ _
    (record {
      answers = answers_quiet (hearers c.args.audience.now) c.args.self.now.giver.books
          c.args.self.now.registry.registrar.history c.take_line.new.registry.registrar.history c.args.number
          c.args.bytes.now c.in-Reply.text.items taken;
      asked = c.take_line.new.registry;
      purges = c.in_ok-text.ensures.purged;
      merges = inl refl;
    })
    (rw c.deref.ensures.value at c.put.ensures.front)

pub settle_batch-requires-clause-waits : goal.settle_batch-requires-clause-waits
settle_batch-requires-clause-waits g c κs within = waits_alone _ _ _ c.new-none.ensures.items

pub returns-in_ok-view-in-Match-clause-ok : goal.returns-in_ok-view-in-Match-clause-ok
returns-in_ok-view-in-Match-clause-ok g c =
    let hearers = g.A.Audience.hearers in
    let taken = rw c.in-Match.is at c.in_ok-text.ensures.taken in
    let merged = c.merge_paid.ensures.history in
    let looked = ap (λ s. s.history) c.in_ok-view-in-Match.ensures ∙ merged in
    let view = c.in_ok-view-in-Match.view in
    let drafts = c.in-Match.drafts in
    let books = c.args.self.now.giver.books in
    let given = c.settle_batch.ensures in
    let goes = goes_on_owed c.settle_batch.result (hearers c.args.audience.now)
    (hearers c.settle_batch.new.audience) books c.settle_batch.new.self.books
    (record { number = c.args.number; batch = 0; view = view; drafts = drafts }) given.heard given.rows
    given.settings in
    both_ok c.settle_batch.result
    (λ goes handed.
    record {
      text = reply books.settings.form (hearers c.args.audience.now) c.args.number view.history
          (matching drafts.items);
      answered = record {
        answers = answers_matched (hearers c.args.audience.now) (hearers c.settle_batch.new.audience) books
            c.settle_batch.new.self.books c.args.self.now.registry.registrar.history
            c.take_line.new.registry.registrar.history view.history c.merge_paid.new.self.registrar.history
            c.args.number c.args.bytes.now _ drafts.items taken.0 taken.1 looked merged goes;
        asked = c.take_line.new.registry;
        purges = c.in_ok-text.ensures.purged;
        merges = inr (_, c.merge_paid.ensures);
      };
      handed = handed;
    })
    goes given.moved

pub returns-in_ok-view-in-Match-clause-err : goal.returns-in_ok-view-in-Match-clause-err
returns-in_ok-view-in-Match-clause-err g c =
    let hearers = g.A.Audience.hearers in
    let taken = rw c.in-Match.is at c.in_ok-text.ensures.taken in
    let looked = ap (λ s. s.history) c.in_ok-view-in-Match.ensures ∙ c.merge_paid.ensures.history in
    let books = c.args.self.now.giver.books in
    let text = reply books.settings.form (hearers c.args.audience.now) c.args.number
    c.in_ok-view-in-Match.view.history (matching c.in-Match.drafts.items) in
    both_err c.settle_batch.result
    (λ heard some.
    record {
      text = text;
      broken = inl (breaks_matched (hearers c.args.audience.now) (hearers c.settle_batch.new.audience) books
          c.settle_batch.new.self.books c.args.self.now.registry.registrar.history
          c.take_line.new.registry.registrar.history c.in_ok-view-in-Match.view.history
          c.merge_paid.new.self.registrar.history c.args.number c.args.bytes.now text []
          c.in-Match.drafts.items taken.0 taken.1 looked heard (sym (append-nil text)));
      written = some;
    })
    c.settle_batch.ensures.err c.settle_batch.ensures.front
