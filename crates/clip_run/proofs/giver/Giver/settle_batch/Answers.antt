use Rattle.std.proofs.Common.{◌++◌, [], List, ℕ, map, refl, sym, ap, ◌∙◌, subst, arith, append-nil}
use Rattle.std.proofs.lemmas.Result.{on_err_weaker, on_ok_weaker}
use Rattle.clip_stream.specs.Device.{AppendsFront, HandsOver}
use Rattle.clip_stream.proofs.Faults.{on_err, on_ok}
use Rattle.clip_stream.proofs.Flows.{handed_more}
use Rattle.clip_listen.specs.Heard.{told_all, note_value, HearsFront}
use Rattle.clip_listen.proofs.Hearing.{no_front, told_none}
use Rattle.clip_protocol.specs.Steps.Flowing.{opening}
use Rattle.clip_front.specs.Outcome.{kept_rows}
use Rattle.clip_front.specs.Steps.Found.{told_in, rows_in}
use Rattle.clip_front.proofs.Delivering.{heard_front, none_posted}
use Rattle.clip_front.proofs.Flowing.{text_front, front_of_whole, front_of_first}
use Rattle.clip_run.specs.Due.{due_to}
use Rattle.clip_run.proofs.Found.{all_matched, found_given, told-alerts_due, text-alerts_due, whole_reply}
use Rattle.clip_front.proofs.Giving.{broken_off, given_next}
use Rattle.clip_run.proofs.Settled.{taken_due, left_due}
use Rattle.clip_run.proofs.giver.Giver.settle_batch.Goals as goal

pub returns-in_err-reply-clause-err : goal.returns-in_err-reply-clause-err
returns-in_err-reply-clause-err g c = on_err _ (no_front _ _)

pub returns-in_err-reply-clause-front : goal.returns-in_err-reply-clause-front
returns-in_err-reply-clause-front g c =
    let form = c.args.self.now.books.settings.form in
    let hearers = g.A.Audience.hearers c.args.audience.now in
    let batch = c.args.batch.now in
    let all = text_front form hearers batch.number (due_to batch) 0 in
    let e = sym (text-alerts_due form hearers batch.number batch.view batch.drafts.items) ∙ all.1
    ∙ ap (λ t. t ++ all.0) (append-nil opening) in
    on_err _ (front_of_first _ _ c.args.flow.now.outbox.now opening all.0 _ e c.in_err-reply.ensures.front)

pub loop-article-init : goal.loop-article-init
loop-article-init g c =
    let begun = c.in_ok-reply.ensures in
    let books = c.args.self.now.books in
    let P : List ℕ → Type 0 =
    λ t. HandsOver (g.W.Sink.taken c.args.flow.now.writer.now) (c.args.flow.now.outbox.now ++ t)
    (g.W.Sink.taken c.begin.new.flow.writer.now) c.begin.new.flow.outbox.now in
    record {
      same_reference = begun.same_reference;
      well = begun.well;
      given = record {
        number = begun.begun.0;
        settings = refl;
        later = begun.begun.2;
        heard = sym (told_none _);
        notes = ap (map note_value) begun.begun.1;
        rows = none_posted books.settings.keeps_rows books.ledger;
        handed = subst P (sym (append-nil opening)) begun.moved;
      };
      due = λ items here due. due;
    }

pub give-requires-clause-turn : goal.give-requires-clause-turn
give-requires-clause-turn g c κs in_order =
    let l = c.loop-article in
    let before = l.invariant in
    record {
      within = omega (arith, c.len-article-end.ensures, c.loop-article-test.true);
      due = taken_due c.args.self.now.books.settings l.self.books.settings c.args.line c.args.batch.now l.article
          c.args.answers.now.items l.answers.items c.take_answer.new.answers.items c.take_answer.result
          before.given.settings c.take_answer.ensures c.requires.waits before.due;
    }

pub loop-article-preserved : goal.loop-article-preserved
loop-article-preserved g c =
    let l = c.loop-article in
    let before = l.invariant in
    let given = c.in_ok-give.ensures in
    record {
      same_reference = given.same_reference ∙ before.same_reference;
      well = given.well ∙ before.well;
      given = given_next _ _ _ _ _ _ before.given given.gives;
      due = left_due c.args.self.now.books.settings c.args.line c.args.batch.now l.article c.args.answers.now.items
          l.answers.items c.take_answer.new.answers.items c.take_answer.result c.take_answer.ensures before.due;
    }

pub returns-in_err-give-clause-err : goal.returns-in_err-give-clause-err
returns-in_err-give-clause-err g c =
    let hearers = g.A.Audience.hearers in
    let batch = c.args.batch.now in
    let broken = broken_off _ _ _ _ _ _ c.loop-article.invariant.given c.in_err-give.ensures.gives in
    on_err _ (subst (λ alerts. HearsFront alerts (hearers c.args.audience.now) (hearers c.give.new.audience))
    (told-alerts_due batch.view batch.drafts.items) broken.0)

pub returns-in_err-give-clause-front : goal.returns-in_err-give-clause-front
returns-in_err-give-clause-front g c =
    let batch = c.args.batch.now in
    let broken = broken_off _ _ _ _ _ _ c.loop-article.invariant.given c.in_err-give.ensures.gives in
    on_err _ (subst (λ t. AppendsFront (g.W.Sink.taken c.args.flow.now.writer.now)
    (g.W.Sink.taken c.give.new.flow.writer.now) (c.args.flow.now.outbox.now ++ t))
    (text-alerts_due c.args.self.now.books.settings.form (g.A.Audience.hearers c.args.audience.now) batch.number
    batch.view batch.drafts.items) broken.1)

pub returns-clause-heard : goal.returns-clause-heard
returns-clause-heard g c =
    let old = g.A.Audience.hearers c.args.audience.now in
    let l = c.loop-article in
    let batch = c.args.batch.now in
    let all = all_matched batch.view batch.drafts.items l.article
    (omega (arith, c.len-article-end.ensures, c.loop-article-test.false)) in
    on_ok _ (l.invariant.given.heard ∙ ap (λ ws. told_all (told_in ws) old) all
    ∙ ap (λ alerts. told_all alerts old) (told-alerts_due batch.view batch.drafts.items))

pub returns-clause-rows : goal.returns-clause-rows
returns-clause-rows g c =
    let old = g.A.Audience.hearers c.args.audience.now in
    let l = c.loop-article in
    let batch = c.args.batch.now in
    let books = c.args.self.now.books in
    let all = all_matched batch.view batch.drafts.items l.article
    (omega (arith, c.len-article-end.ensures, c.loop-article-test.false)) in
    let gives = found_given batch.view old batch.number batch.drafts.items (due_to batch) refl in
    on_ok _ (l.invariant.given.rows
    ∙ ap (λ ws. books.ledger ++ kept_rows books.settings.keeps_rows (rows_in old batch.number ws)) all
    ∙ ap (λ o. books.ledger ++ kept_rows books.settings.keeps_rows o.rows) gives)

pub returns-clause-settings : goal.returns-clause-settings
returns-clause-settings g c = on_ok _ c.loop-article.invariant.given.settings

pub returns-clause-due : goal.returns-clause-due
returns-clause-due g c = on_ok _ c.loop-article.invariant.due

pub returns-clause-moved : goal.returns-clause-moved
returns-clause-moved g c =
    let l = c.loop-article in
    let given = l.invariant.given in
    let whole = whole_reply c.args.batch.now c.args.self.now.books.settings.form
    (g.A.Audience.hearers c.args.audience.now) l.reply l.article
    (omega (arith, c.len-article-end.ensures, c.loop-article-test.false)) given.number given.notes in
    let P : List ℕ → Type 0 =
    λ t. HandsOver (g.W.Sink.taken c.args.flow.now.writer.now) (c.args.flow.now.outbox.now ++ t)
    (g.W.Sink.taken c.end.new.flow.writer.now) c.end.new.flow.outbox.now in
    on_ok_weaker c.end.result
    (λ p. subst P whole (handed_more _ _ _ c.args.flow.now.outbox.now l.flow.outbox.now c.end.new.flow.outbox.now
    _ _ given.handed p)) c.end.ensures.moved

pub returns-clause-err : goal.returns-clause-err
returns-clause-err g c =
    let hearers = g.A.Audience.hearers in
    let batch = c.args.batch.now in
    on_err _ (subst (λ alerts. HearsFront alerts (hearers c.args.audience.now) (hearers c.loop-article.audience))
    (told-alerts_due batch.view batch.drafts.items)
    (heard_front (due_to batch) c.loop-article.article _ _ c.loop-article.invariant.given.heard))

pub returns-clause-front : goal.returns-clause-front
returns-clause-front g c =
    let l = c.loop-article in
    let given = l.invariant.given in
    let whole = whole_reply c.args.batch.now c.args.self.now.books.settings.form
    (g.A.Audience.hearers c.args.audience.now) l.reply l.article
    (omega (arith, c.len-article-end.ensures, c.loop-article-test.false)) given.number given.notes in
    on_err_weaker c.end.result
    (λ some. front_of_whole _ _ _ c.args.flow.now.outbox.now l.flow.outbox.now _ _ [] _ (sym whole
    ∙ sym (append-nil _)) given.handed some) c.end.ensures.front
