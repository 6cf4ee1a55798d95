use Rattle.std.proofs.Common.{◌++◌, ◌∙◌, List, ℕ, OnErr, OnOk, ap, append-nil, map, option_map, refl, subst, sym}
use Rattle.clip_stream.specs.Device.{AppendsFront, HandsOver}
use Rattle.clip_stream.proofs.Faults.{on_err, on_ok}
use Rattle.clip_listen.specs.Heard.{note_value}
use Rattle.clip_listen.proofs.Hearing.{no_front}
use Rattle.clip_front.specs.Giving.{GivesArticle, giving}
use Rattle.clip_front.specs.Outcome.{kept_rows, rows_of_article}
use Rattle.clip_front.proofs.Giving.{gives_front}
use Rattle.clip_front.proofs.Unheard.{unheard}
use Rattle.clip_match.specs.Due.{due_value}
use Rattle.clip_protocol.specs.Steps.Flowing.{item_text}
use Rattle.clip_protocol.specs.Steps.Putting.{stand}
use Rattle.clip_run.proofs.Quiet.{shown_unheard, unlistened}
use Rattle.clip_run.proofs.giver.answer_article.Goals as goal

pub returns-in_err-alerts-clause-gives : goal.returns-in_err-alerts-clause-gives
returns-in_err-alerts-clause-gives g c = gives_front _ _ _ _ c.from_residual.ensures.1 refl refl refl (no_front _ _)

pub returns-then-wants_alerts-clause-gives : goal.returns-then-wants_alerts-clause-gives
returns-then-wants_alerts-clause-gives g c =
    let at = stand g.W.Sink.taken g.W.Sink.has_failed in
    let hearers = g.A.Audience.hearers in
    let books = c.args.books.now in
    subst (λ v. GivesArticle
    (giving (hearers c.args.audience.now) books.ledger books.settings c.args.answer.now
    (at c.args.flow.now.writer.now c.args.flow.now.outbox.now))
    (giving (hearers c.add.new.audience) c.add.new.books.ledger c.add.new.books.settings c.add.new.self
    (at c.add.new.flow.writer.now c.add.new.flow.outbox.now)) v c.add.result)
    c.in_ok-alerts.ensures.value c.add.ensures.gives

pub returns-in_err-queries-clause-gives : goal.returns-in_err-queries-clause-gives
returns-in_err-queries-clause-gives g c = gives_front _ _ _ _ c.from_residual-in_err-queries.ensures.1 refl refl refl
    (no_front _ _)

pub returns-in_err-views-clause-gives : goal.returns-in_err-views-clause-gives
returns-in_err-views-clause-gives g c = gives_front _ _ _ _ c.from_residual-in_err-views.ensures.1 refl refl refl
    (no_front _ _)

pub returns-clause-gives : goal.returns-clause-gives
returns-clause-gives g c =
    let hearers = g.A.Audience.hearers c.args.audience.now in
    let form = c.args.books.now.settings.form in
    let ledger = c.args.books.now.ledger in
    let due = due_value c.args.due in
    let put = c.add_unheard.ensures in
    let none = unlistened due.alerts (c.wants_alerts.ensures.unheard c.if-wants_alerts.false) in
    let unkept = c.wants_alerts.ensures.unkept c.if-wants_alerts.false in
    let before = map note_value c.args.answer.now.notes.items in
    let rows = rows_of_article hearers c.args.answer.now.number due.alerts in
    let whole = ap (item_text c.args.answer.now.has_article)
    (shown_unheard form _ due.article _ (option_map (λ v. v.now) c.as_deref.result) due.alerts
    c.article_id.ensures (ap (map (λ id. id.now)) c.deref.ensures.value ∙ c.in_ok-queries.ensures)
    (c.as_deref.ensures.value ∙ c.in_ok-views.ensures)) in
    let Moved : List ℕ → Type 0 = λ t. OnOk c.add_unheard.result
    (HandsOver (g.W.Sink.taken c.args.flow.now.writer.now) (c.args.flow.now.outbox.now ++ t)
    (g.W.Sink.taken c.add_unheard.new.flow.writer.now) c.add_unheard.new.flow.outbox.now) in
    let Front : List ℕ → Type 0 = λ t. OnErr c.add_unheard.result
    (AppendsFront (g.W.Sink.taken c.args.flow.now.writer.now) (g.W.Sink.taken c.add_unheard.new.flow.writer.now)
    (c.args.flow.now.outbox.now ++ t)) in
    record {
      number = put.number;
      settings = refl;
      notes = on_ok _ (ap (map note_value) put.notes ∙ sym (append-nil before)
          ∙ ap (λ said. before ++ said) (sym (unheard due.alerts hearers none).1));
      later = put.later;
      heard = on_ok _ (sym (unheard due.alerts hearers none).0);
      rows = on_ok _ (sym (append-nil ledger) ∙ ap (λ keeps. ledger ++ kept_rows keeps rows) (sym unkept));
      moved = subst Moved whole put.moved;
      err = on_err _ (no_front _ _);
      front = subst Front whole put.front;
    }
