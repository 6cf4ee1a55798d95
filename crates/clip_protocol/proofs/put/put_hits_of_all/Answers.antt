use Rattle.std.proofs.Common.{◌≡◌, ◌+◌, ◌<◌, List, ℕ, ◌++◌, false, get_or, length, map, nat_lt, take, append_assoc}
use Rattle.std.proofs.Common.{refl, sym, ap, subst, ◌∙◌}
use Rattle.serde_json.specs.Written.{comma_if, compact_text}
use Rattle.clip_model.specs.Alerts.{Alert}
use Rattle.clip_listen.proofs.Hearing.{element}
use Rattle.clip_protocol.specs.Reply.{hit_data}
use Rattle.clip_protocol.specs.Request.{array_of}
use Rattle.clip_protocol.specs.Steps.Flowing.{Data, items_begun}
use Rattle.clip_protocol.specs.Steps.Putting.{Puts, stand, with_text}
use Rattle.clip_protocol.proofs.Printed.{items_front, items_next}
use Rattle.clip_protocol.proofs.Putting.{broken, broken_on, puts_more, puts_on, puts_one, refused}
use Rattle.clip_protocol.proofs.put.put_hits_of_all.Given.{Over}
use Rattle.clip_protocol.proofs.put.put_hits_of_all.Goals as goal
use Rattle.clip_protocol.proofs.put.put_hits_of_all.Goals.{In_ok-text}

abbrev hits_of : Alert → Data
hits_of a = array_of (map hit_data a.hits)

-- the hits of one alert more
next : (alerts : List Alert) (i : ℕ) (a : Alert) → i < length alerts → a ≡ get_or alerts i a
    → (items_begun false (take i (map hits_of alerts)) ++ comma_if (nat_lt 0 i))
    ++ compact_text (hits_of a)
    ≡ items_begun false (take (i + 1) (map hits_of alerts))
next alerts i a below is =
    let shown = element hits_of alerts alerts i a refl below is in
    append_assoc (items_begun false (take i (map hits_of alerts))) (comma_if (nat_lt 0 i))
    (compact_text (hits_of a))
    ∙ items_next (map hits_of alerts) i (hits_of a) shown.0 shown.1

-- they were put behind a comma
put : (g : Over) (c : In_ok-text g)
    → Puts (stand g.W.Sink.taken g.W.Sink.has_failed c.args.flow.now.writer.now (c.args.flow.now.outbox.now
    ++ c.args.text.items))
    (stand g.W.Sink.taken g.W.Sink.has_failed c.put_hits_of.new.flow.writer.now (c.put_hits_of.new.flow.outbox.now
    ++ c.in_ok-text.text.items))
    (items_begun false (take (c.loop-place.place + 1) (map hits_of c.args.alerts.now)))
put g c =
    let old = stand g.W.Sink.taken g.W.Sink.has_failed c.args.flow.now.writer.now (c.args.flow.now.outbox.now
    ++ c.args.text.items) in
    let now = stand g.W.Sink.taken g.W.Sink.has_failed c.put_hits_of.new.flow.writer.now
    (c.put_hits_of.new.flow.outbox.now ++ c.in_ok-text.text.items) in
    let here = stand g.W.Sink.taken g.W.Sink.has_failed c.loop-place.flow.writer.now c.loop-place.flow.outbox.now in
    let a = c.index-alerts-place.result in
    let i = c.loop-place.place in
    let first = items_begun false (take i (map hits_of c.args.alerts.now)) in
    let comma = comma_if (nat_lt 0 i) in
    let parted = puts_one old here c.loop-place.text.items c.separate.new.text.items first comma
    c.loop-place.invariant.puts c.in_ok-separate.ensures in
    subst (Puts old now) (next c.args.alerts.now c.loop-place.place a c.loop-place-test.true c.index-alerts-place.is)
    (puts_more old (with_text here c.separate.new.text.items) now (first ++ comma)
    (compact_text (hits_of a)) parted c.in_ok-text.ensures.puts)

pub returns-in_err-separate-clause-puts : goal.returns-in_err-separate-clause-puts
returns-in_err-separate-clause-puts g c =
    let ds = map hits_of c.args.alerts.now in
    let i = c.loop-place.place in
    let front = items_front ds i in
    let here = stand g.W.Sink.taken g.W.Sink.has_failed c.loop-place.flow.writer.now c.loop-place.flow.outbox.now in
    refused c.from_residual.result _ here c.loop-place.text.items (items_begun false (take i ds)) front.0
    (items_begun false ds) c.from_residual.ensures.1 front.1 c.loop-place.invariant.puts

pub returns-in_err-text-clause-puts : goal.returns-in_err-text-clause-puts
returns-in_err-text-clause-puts g c =
    let ds = map hits_of c.args.alerts.now in
    let i = c.loop-place.place in
    let a = c.index-alerts-place.result in
    let front = items_front ds (i + 1) in
    let first = items_begun false (take i ds) in
    let comma = comma_if (nat_lt 0 i) in
    let old = stand g.W.Sink.taken g.W.Sink.has_failed c.args.flow.now.writer.now (c.args.flow.now.outbox.now
    ++ c.args.text.items) in
    let here = stand g.W.Sink.taken g.W.Sink.has_failed c.loop-place.flow.writer.now c.loop-place.flow.outbox.now in
    let parted = puts_one old here c.loop-place.text.items c.separate.new.text.items first comma
    c.loop-place.invariant.puts c.in_ok-separate.ensures in
    let now = stand g.W.Sink.taken g.W.Sink.has_failed c.put_hits_of.new.flow.writer.now
    c.put_hits_of.new.flow.outbox.now in
    let whole = front.1 ∙ ap (λ t. t ++ front.0)
    (sym (next c.args.alerts.now i a c.loop-place-test.true c.index-alerts-place.is)) in
    broken c.from_residual-in_err-text.result _ old (with_text here c.separate.new.text.items) now (first ++ comma)
    (compact_text (hits_of a)) front.0 (items_begun false ds) c.from_residual-in_err-text.ensures.1
    whole parted c.in_err-text.ensures.puts

pub returns-in_err-text-2-clause-puts : goal.returns-in_err-text-2-clause-puts
returns-in_err-text-2-clause-puts g c =
    let ds = map hits_of c.args.alerts.now in
    let i = c.loop-place.place in
    let front = items_front ds (i + 1) in
    let here = (goal.at.returns-in_err-text-2-clause-puts g c).In_ok-text in
    let now = stand g.W.Sink.taken g.W.Sink.has_failed c.put_piece.new.flow.writer.now c.put_piece.new.flow.outbox.now
    in
    broken_on c.from_residual-in_err-text-2.result _ _ _ now (items_begun false (take (i + 1) ds)) front.0
    (items_begun false ds) c.from_residual-in_err-text-2.ensures.1 front.1 (put g here) c.in_err-text-2.ensures.puts

pub loop-place-preserved : goal.loop-place-preserved
loop-place-preserved g c =
    let here = (goal.at.loop-place-preserved g c).In_ok-text in
    record {
      same_reference = c.in_ok-text-2.ensures.same_reference ∙ c.in_ok-text.ensures.same_reference
          ∙ c.loop-place.invariant.same_reference;
      puts = puts_on _ _ _ _ (put g here) c.in_ok-text-2.ensures.puts;
    }
