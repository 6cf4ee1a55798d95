use Rattle.std.proofs.Common.{◌≡◌, ℕ, ◌<◌, List, ◌++◌, [], length, get_or, map, sym, ap, subst, ◌∙◌}
use Rattle.std.specs.Prelude.{OnOk, OnErr, Some}
use Rattle.std.proofs.lemmas.Result.{on_err_weaker, on_ok_weaker}
use Rattle.clip_stream.specs.Device.{AppendsFront, HandsOver}
use Rattle.clip_stream.proofs.Faults.{on_err, on_ok}
use Rattle.clip_stream.proofs.Flows.{handed_none}
use Rattle.clip_listen.specs.Heard.{Hearer, told_all, HearsFront}
use Rattle.clip_listen.proofs.Hearing.{no_front}
use Rattle.clip_front.specs.Outcome.{kept_rows}
use Rattle.clip_run.specs.Owed.{owed_of}
use Rattle.clip_run.specs.Pending.{owed_at, owed_by, owed_from, owed_to}
use Rattle.clip_run.specs.declared.batch.Batch.{Batch}
use Rattle.clip_run.specs.declared.batch.Pending.{Pending}
use Rattle.clip_run.specs.declared.batch.Pending.TheVariants as pending
use Rattle.clip_run.proofs.Owing.{owed_past, handed_ready, front_ready, heard_none, kept_none}
use Rattle.clip_run.proofs.AnsweredAlone.{both_ok}
use Rattle.clip_run.proofs.Settled.{crew_then}
use Rattle.clip_run.proofs.Sharing.{got}
use Rattle.clip_run.proofs.crew.Crew.settle.Goals as goal

-- what is owed to a line whose item was read
owed_here : (items : List Pending) (line : ℕ) (item now : Pending) → line < length items → item ≡ get_or items line item
    → item ≡ now → owed_at items line ≡ owed_by now
owed_here items line item now within at is = ap owed_from (got items line item within at ∙ ap Some is)

-- and to one whose batch waits
waits_for : (hearers : List Hearer) (items : List Pending) (line : ℕ) (item : Pending) (batch : Batch)
    → line < length items → item ≡ get_or items line item → item ≡ pending.Waiting batch
    → owed_to hearers batch ≡ owed_of hearers (owed_at items line)
waits_for hearers items line item batch within at is =
    ap (owed_of hearers) (sym (owed_here items line item (pending.Waiting batch) within at is))

pub settle_batch-requires-clause-waits : goal.settle_batch-requires-clause-waits
settle_batch-requires-clause-waits g c κs within = record {
  items = c.args.items.now;
  here = got c.args.items.now c.args.line c.in-Some.item.now c.in-Some.ensures.lookup.3.0 c.in-Some.ensures.lookup.1
      ∙ ap Some c.in-Waiting.is;
  due = rw (← c.self.view_is) at c.requires;
}

pub returns-in_default-clause-heard : goal.returns-in_default-clause-heard
returns-in_default-clause-heard g c =
    let hearers = g.A.Audience.hearers c.args.audience.now in
    heard_none hearers (owed_at c.args.items.now c.args.line) []
    (owed_past c.args.items.now c.args.line c.in_default.ensures.lookup.3)

pub returns-in_default-clause-crew : goal.returns-in_default-clause-crew
returns-in_default-clause-crew g c =
    let hearers = g.A.Audience.hearers c.args.audience.now in
    kept_none c.args.self.now hearers (owed_at c.args.items.now c.args.line) []
    (owed_past c.args.items.now c.args.line c.in_default.ensures.lookup.3)

pub returns-in_default-clause-moved : goal.returns-in_default-clause-moved
returns-in_default-clause-moved g c =
    let hearers = g.A.Audience.hearers c.args.audience.now in
    let taken = g.W.Sink.taken c.args.flow.now.writer.now in
    let gathered = c.args.flow.now.outbox.now in
    handed_ready hearers (owed_at c.args.items.now c.args.line) [] c.args.self.now.settings.form taken taken gathered
    gathered (owed_past c.args.items.now c.args.line c.in_default.ensures.lookup.3) (handed_none taken gathered)

pub returns-in-Ready-clause-heard : goal.returns-in-Ready-clause-heard
returns-in-Ready-clause-heard g c =
    let hearers = g.A.Audience.hearers c.args.audience.now in
    let items = c.args.items.now in
    let line = c.args.line in
    let owed = owed_here items line c.in-Some.item.now (pending.Ready c.in-Ready.text) c.in-Some.ensures.lookup.3.0
    c.in-Some.ensures.lookup.1 c.in-Ready.is in
    on_ok _ (heard_none hearers (owed_at items line) c.in-Ready.text.items owed)

pub returns-in-Ready-clause-crew : goal.returns-in-Ready-clause-crew
returns-in-Ready-clause-crew g c =
    let hearers = g.A.Audience.hearers c.args.audience.now in
    let items = c.args.items.now in
    let line = c.args.line in
    let owed = owed_here items line c.in-Some.item.now (pending.Ready c.in-Ready.text) c.in-Some.ensures.lookup.3.0
    c.in-Some.ensures.lookup.1 c.in-Ready.is in
    on_ok _ (kept_none c.args.self.now hearers (owed_at items line) c.in-Ready.text.items owed)

pub returns-in-Ready-clause-moved : goal.returns-in-Ready-clause-moved
returns-in-Ready-clause-moved g c =
    let hearers = g.A.Audience.hearers c.args.audience.now in
    let taken = g.W.Sink.taken in
    let items = c.args.items.now in
    let line = c.args.line in
    let owed = owed_here items line c.in-Some.item.now (pending.Ready c.in-Ready.text) c.in-Some.ensures.lookup.3.0
    c.in-Some.ensures.lookup.1 c.in-Ready.is in
    on_ok_weaker c.put.result
    (handed_ready hearers (owed_at items line) c.in-Ready.text.items c.args.self.now.settings.form
    (taken c.args.flow.now.writer.now) (taken c.put.new.self.writer.now) c.args.flow.now.outbox.now
    c.put.new.self.outbox.now owed)
    (rw c.deref.ensures.value at c.put.ensures.moved)

pub returns-in-Ready-clause-err : goal.returns-in-Ready-clause-err
returns-in-Ready-clause-err g c =
    let hearers = g.A.Audience.hearers c.args.audience.now in
    on_err _ (no_front (owed_of hearers (owed_at c.args.items.now c.args.line)).alerts hearers)

pub returns-in-Ready-clause-front : goal.returns-in-Ready-clause-front
returns-in-Ready-clause-front g c =
    let hearers = g.A.Audience.hearers c.args.audience.now in
    let taken = g.W.Sink.taken in
    let items = c.args.items.now in
    let line = c.args.line in
    let owed = owed_here items line c.in-Some.item.now (pending.Ready c.in-Ready.text) c.in-Some.ensures.lookup.3.0
    c.in-Some.ensures.lookup.1 c.in-Ready.is in
    on_err_weaker c.put.result
    (front_ready hearers (owed_at items line) c.in-Ready.text.items c.args.self.now.settings.form
    (taken c.args.flow.now.writer.now) (taken c.put.new.self.writer.now) c.args.flow.now.outbox.now owed)
    (rw c.deref.ensures.value at c.put.ensures.front)

pub returns-in-Waiting-clause-heard : goal.returns-in-Waiting-clause-heard
returns-in-Waiting-clause-heard g c =
    let hearers = g.A.Audience.hearers in
    let old = hearers c.args.audience.now in
    let same = waits_for old c.args.items.now c.args.line c.in-Some.item.now c.in-Waiting.batch
    c.in-Some.ensures.lookup.3.0 c.in-Some.ensures.lookup.1 c.in-Waiting.is in
    subst (λ o. OnOk c.settle_batch.result (hearers c.settle_batch.new.audience ≡ told_all o.alerts old)) same
    c.settle_batch.ensures.heard

pub returns-in-Waiting-clause-crew : goal.returns-in-Waiting-clause-crew
returns-in-Waiting-clause-crew g c =
    let i = c.self.inside in
    let old = g.A.Audience.hearers c.args.audience.now in
    let same = waits_for old c.args.items.now c.args.line c.in-Some.item.now c.in-Waiting.batch
    c.in-Some.ensures.lookup.3.0 c.in-Some.ensures.lookup.1 c.in-Waiting.is in
    let books = i.giver.books in
    rw (← c.self.view_is)
    (both_ok c.settle_batch.result
    (λ rows settings. crew_then i.caller.history (map owed_by i.pending.items) _ _ _ _
    (rows ∙ ap (λ o. books.ledger ++ kept_rows books.settings.keeps_rows o.rows) same) settings)
    c.settle_batch.ensures.rows c.settle_batch.ensures.settings)

pub returns-in-Waiting-clause-due : goal.returns-in-Waiting-clause-due
returns-in-Waiting-clause-due g c =
    let items = c.args.items.now in
    let read = got items c.args.line c.in-Some.item.now c.in-Some.ensures.lookup.3.0 c.in-Some.ensures.lookup.1 in
    let due = rw (← c.self.view_is) at c.requires in
    rw (← c.self.view_is)
    (on_ok_weaker c.settle_batch.result (λ keeps. keeps items (read ∙ ap Some c.in-Waiting.is) due)
    c.settle_batch.ensures.due)

pub returns-in-Waiting-clause-moved : goal.returns-in-Waiting-clause-moved
returns-in-Waiting-clause-moved g c =
    let taken = g.W.Sink.taken in
    let old = g.A.Audience.hearers c.args.audience.now in
    let same = waits_for old c.args.items.now c.args.line c.in-Some.item.now c.in-Waiting.batch
    c.in-Some.ensures.lookup.3.0 c.in-Some.ensures.lookup.1 c.in-Waiting.is in
    rw (← c.self.view_is)
    (subst (λ o. OnOk c.settle_batch.result
    (HandsOver (taken c.args.flow.now.writer.now) (c.args.flow.now.outbox.now
    ++ o.text c.self.inside.giver.books.settings.form) (taken c.settle_batch.new.flow.writer.now)
    c.settle_batch.new.flow.outbox.now)) same c.settle_batch.ensures.moved)

pub returns-in-Waiting-clause-err : goal.returns-in-Waiting-clause-err
returns-in-Waiting-clause-err g c =
    let hearers = g.A.Audience.hearers in
    let old = hearers c.args.audience.now in
    let same = waits_for old c.args.items.now c.args.line c.in-Some.item.now c.in-Waiting.batch
    c.in-Some.ensures.lookup.3.0 c.in-Some.ensures.lookup.1 c.in-Waiting.is in
    subst (λ o. OnErr c.settle_batch.result (HearsFront o.alerts old (hearers c.settle_batch.new.audience))) same
    c.settle_batch.ensures.err

pub returns-in-Waiting-clause-front : goal.returns-in-Waiting-clause-front
returns-in-Waiting-clause-front g c =
    let taken = g.W.Sink.taken in
    let old = g.A.Audience.hearers c.args.audience.now in
    let same = waits_for old c.args.items.now c.args.line c.in-Some.item.now c.in-Waiting.batch
    c.in-Some.ensures.lookup.3.0 c.in-Some.ensures.lookup.1 c.in-Waiting.is in
    rw (← c.self.view_is)
    (subst (λ o. OnErr c.settle_batch.result
    (AppendsFront (taken c.args.flow.now.writer.now) (taken c.settle_batch.new.flow.writer.now)
    (c.args.flow.now.outbox.now ++ o.text c.self.inside.giver.books.settings.form))) same
    c.settle_batch.ensures.front)
