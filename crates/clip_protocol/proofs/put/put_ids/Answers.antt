use Rattle.std.proofs.Common.{◌-◌, ◌<◌, ◌≤◌, ◌++◌, false, length, map, nat_lt, take, drop, arith, ap, subst, ◌∙◌}
use Rattle.std.proofs.lemmas.List.{length-map}
use Rattle.serde_json.specs.Written.{comma_if}
use Rattle.serde_json.specs.Data.{string}
use Rattle.clip_protocol.specs.Steps.Flowing.{items_begun}
use Rattle.clip_protocol.specs.Steps.Putting.{Puts, stand, with_text}
use Rattle.clip_protocol.proofs.Printed.{items_front, items_all, items_piece, piece_mapped}
use Rattle.clip_protocol.proofs.Putting.{broken_on, puts_on, puts_two, refused}
use Rattle.clip_protocol.proofs.put.put_ids.Given.{Over}
use Rattle.clip_protocol.proofs.put.put_ids.Goals as goal
use Rattle.clip_protocol.proofs.put.put_ids.Goals.{In_ok-text}

pub returns-in_err-separate-clause-puts : goal.returns-in_err-separate-clause-puts
returns-in_err-separate-clause-puts g c =
    let ds = map string (map (λ id. id.now) c.args.ids.now) in
    let front = items_front ds c.loop-at.at in
    let here = stand g.W.Sink.taken g.W.Sink.has_failed c.loop-at.flow.writer.now c.loop-at.flow.outbox.now in
    refused c.from_residual.result _ here c.loop-at.text.items (items_begun false (take c.loop-at.at ds)) front.0
    (items_begun false ds) c.from_residual.ensures.1 front.1 c.loop-at.invariant.puts

pub returns-in_err-text-clause-puts : goal.returns-in_err-text-clause-puts
returns-in_err-text-clause-puts g c =
    let ds = map string (map (λ id. id.now) c.args.ids.now) in
    let front = items_front ds c.loop-at.at in
    let here = stand g.W.Sink.taken g.W.Sink.has_failed c.loop-at.flow.writer.now c.loop-at.flow.outbox.now in
    refused c.from_residual-in_err-text.result _ here c.loop-at.text.items (items_begun false (take c.loop-at.at ds))
    front.0 (items_begun false ds) c.from_residual-in_err-text.ensures.1 front.1 c.loop-at.invariant.puts

-- the next ids were written
written : (g : Over) (c : In_ok-text g)
    → Puts (stand g.W.Sink.taken g.W.Sink.has_failed c.args.flow.now.writer.now (c.args.flow.now.outbox.now
    ++ c.args.text.items))
    (stand g.W.Sink.taken g.W.Sink.has_failed c.loop-at.flow.writer.now (c.loop-at.flow.outbox.now
    ++ c.in_ok-text.text.items))
    (items_begun false (take c.min-end.result (map string (map (λ id. id.now) c.args.ids.now))))
written g c =
    let ids = map (λ id. id.now) c.args.ids.now in
    let ds = map string ids in
    let i = c.loop-at.at in
    let j = c.min-end.result in
    let below : i < j = omega (arith, c.min-end.ensures, c.saturating_add.ensures, c.loop-at-test.true) in
    let within : j ≤ length ds =
    omega (arith, c.min-end.ensures, length-map c.args.ids.now (λ id. id.now), length-map ids string) in
    let piece = ap (map string) (piece_mapped (λ id. id.now) c.args.ids.now (j - i) i)
    ∙ piece_mapped string ids (j - i) i in
    let old = stand g.W.Sink.taken g.W.Sink.has_failed c.args.flow.now.writer.now (c.args.flow.now.outbox.now
    ++ c.args.text.items) in
    let here = stand g.W.Sink.taken g.W.Sink.has_failed c.loop-at.flow.writer.now c.loop-at.flow.outbox.now in
    let first = items_begun false (take i ds) in
    subst (Puts old (with_text here c.in_ok-text.text.items)) (items_piece ds i j below within)
    (puts_two old here c.loop-at.text.items c.separate.new.text.items c.in_ok-text.text.items first
    (comma_if (nat_lt 0 i)) (items_begun false (take (j - i) (drop i ds))) c.loop-at.invariant.puts
    c.in_ok-separate.ensures (c.in_ok-text.ensures ∙ ap (λ p. c.separate.new.text.items ++ items_begun false p) piece))

pub returns-in_err-text-2-clause-puts : goal.returns-in_err-text-2-clause-puts
returns-in_err-text-2-clause-puts g c =
    let ds = map string (map (λ id. id.now) c.args.ids.now) in
    let end = c.min-end.result in
    let front = items_front ds end in
    let here = (goal.at.returns-in_err-text-2-clause-puts g c).In_ok-text in
    let now = stand g.W.Sink.taken g.W.Sink.has_failed c.put_piece.new.flow.writer.now c.put_piece.new.flow.outbox.now
    in
    broken_on c.from_residual-in_err-text-2.result _ _ _ now (items_begun false (take end ds)) front.0
    (items_begun false ds) c.from_residual-in_err-text-2.ensures.1 front.1 (written g here)
    c.in_err-text-2.ensures.puts

pub returns-clause-puts : goal.returns-clause-puts
returns-clause-puts g c =
    let ids = map (λ id. id.now) c.args.ids.now in
    let ds = map string ids in
    let old = stand g.W.Sink.taken g.W.Sink.has_failed c.args.flow.now.writer.now (c.args.flow.now.outbox.now
    ++ c.args.text.items) in
    let here = stand g.W.Sink.taken g.W.Sink.has_failed c.loop-at.flow.writer.now c.loop-at.flow.outbox.now in
    let past : length ds ≤ c.loop-at.at =
    omega (arith, length-map c.args.ids.now (λ id. id.now), length-map ids string, c.loop-at-test.false) in
    subst (Puts old (with_text here c.loop-at.text.items)) (items_all ds c.loop-at.at past) c.loop-at.invariant.puts

pub loop-at-preserved : goal.loop-at-preserved
loop-at-preserved g c =
    let here = (goal.at.loop-at-preserved g c).In_ok-text in
    record {
      same_reference = c.in_ok-text-2.ensures.same_reference ∙ c.loop-at.invariant.same_reference;
      within = omega (arith, c.min-end.ensures);
      puts = puts_on _ _ _ _ (written g here) c.in_ok-text-2.ensures.puts;
    }
