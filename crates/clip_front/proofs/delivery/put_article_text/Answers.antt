use Rattle.std.proofs.Common.{◌≡◌, ◌++◌, List, ℕ, false, true, sym, ◌∙◌, subst, arith, OnErr, OnOk}
use Rattle.std.proofs.lemmas.Result.{on_err_weaker, on_ok_weaker}
use Rattle.clip_stream.specs.Device.{AppendsFront, HandsOver}
use Rattle.clip_stream.proofs.Faults.{on_err}
use Rattle.clip_protocol.specs.Reply.{alerts_data}
use Rattle.clip_protocol.specs.Steps.Flowing.{Data, item_text}
use Rattle.clip_protocol.specs.Steps.Views.{alerts_by_id}
use Rattle.clip_protocol.specs.declared.shown.Shown.{Shown}
use Rattle.clip_protocol.proofs.Printed.{print-item}
use Rattle.clip_front.proofs.Shown.{front_behind_comma, front_of_comma, put_behind}
use Rattle.clip_front.proofs.delivery.put_article_text.Goals as goal

abbrev item_of : Shown → Data
item_of shown = alerts_data shown.form (alerts_by_id shown.alerts.value)

pub returns-then-not-later-clause-moved : goal.returns-then-not-later-clause-moved
returns-then-not-later-clause-moved g c =
    let d = item_of c.args.shown.now in
    let same = c.as_slice.ensures ∙ print-item d in
    let first : c.args.later ≡ false = grind (arith, c.if-not-later.true) in
    let P : List ℕ → Type 0 =
    λ t. OnOk c.put.result (HandsOver (g.W.Sink.taken c.args.flow.now.writer.now) (c.args.flow.now.outbox.now ++ t)
    (g.W.Sink.taken c.put.new.self.writer.now) c.put.new.self.outbox.now) in
    subst (λ later. P (item_text later d)) (sym first) (subst P same c.put.ensures.moved)

pub returns-then-not-later-clause-front : goal.returns-then-not-later-clause-front
returns-then-not-later-clause-front g c =
    let d = item_of c.args.shown.now in
    let same = c.as_slice.ensures ∙ print-item d in
    let first : c.args.later ≡ false = grind (arith, c.if-not-later.true) in
    let P : List ℕ → Type 0 =
    λ t. OnErr c.put.result (AppendsFront (g.W.Sink.taken c.args.flow.now.writer.now)
    (g.W.Sink.taken c.put.new.self.writer.now) (c.args.flow.now.outbox.now ++ t)) in
    subst (λ later. P (item_text later d)) (sym first) (subst P same c.put.ensures.front)

pub returns-in_err-put-clause-front : goal.returns-in_err-put-clause-front
returns-in_err-put-clause-front g c =
    let d = item_of c.args.shown.now in
    let taken = g.W.Sink.taken in
    let behind : c.args.later ≡ true = grind (arith, c.if-not-later.false) in
    let put = front_of_comma (taken c.args.flow.now.writer.now) (taken c.put-2.new.self.writer.now)
    c.args.flow.now.outbox.now d c.in_err-put.ensures.front in
    on_err _ (subst (λ later. AppendsFront (taken c.args.flow.now.writer.now) (taken c.put-2.new.self.writer.now)
    (c.args.flow.now.outbox.now ++ item_text later d)) (sym behind) put)

pub returns-clause-moved : goal.returns-clause-moved
returns-clause-moved g c =
    let d = item_of c.args.shown.now in
    let taken = g.W.Sink.taken in
    let same = c.as_slice-2.ensures ∙ print-item d in
    let behind : c.args.later ≡ true = grind (arith, c.if-not-later.false) in
    let P : List ℕ → Type 0 =
    λ t. HandsOver (taken c.args.flow.now.writer.now) (c.args.flow.now.outbox.now ++ t)
    (taken c.put-3.new.self.writer.now) c.put-3.new.self.outbox.now in
    on_ok_weaker c.put-3.result
    (λ put. subst (λ later. P (item_text later d)) (sym behind)
    (put_behind (taken c.args.flow.now.writer.now) (taken c.put-2.new.self.writer.now)
    (taken c.put-3.new.self.writer.now) c.args.flow.now.outbox.now c.put-2.new.self.outbox.now
    c.put-3.new.self.outbox.now c.as_slice-2.result.now d same c.in_ok-put.ensures.moved put))
    c.put-3.ensures.moved

pub returns-clause-front : goal.returns-clause-front
returns-clause-front g c =
    let d = item_of c.args.shown.now in
    let taken = g.W.Sink.taken in
    let same = c.as_slice-2.ensures ∙ print-item d in
    let behind : c.args.later ≡ true = grind (arith, c.if-not-later.false) in
    let P : List ℕ → Type 0 =
    λ t. AppendsFront (taken c.args.flow.now.writer.now) (taken c.put-3.new.self.writer.now)
    (c.args.flow.now.outbox.now ++ t) in
    on_err_weaker c.put-3.result
    (λ put. subst (λ later. P (item_text later d)) (sym behind)
    (front_behind_comma (taken c.args.flow.now.writer.now) (taken c.put-2.new.self.writer.now)
    (taken c.put-3.new.self.writer.now) c.args.flow.now.outbox.now c.put-2.new.self.outbox.now
    c.as_slice-2.result.now d same c.in_ok-put.ensures.moved put))
    c.put-3.ensures.front
