use Rattle.std.proofs.Common.{◌-◌, ◌<◌, ◌≤◌, [], ◌∷◌, ◌++◌, false, length, map, nat_lt, take, drop, arith, ap, subst}
use Rattle.std.proofs.Common.{◌∙◌}
use Rattle.std.proofs.lemmas.List.{length-map}
use Rattle.serde_json.specs.Written.{comma_if, compact_text}
use Rattle.clip_meaning.specs.Hits.{hit_value}
use Rattle.clip_protocol.specs.Reply.{hit_data}
use Rattle.clip_protocol.specs.Request.{array_of}
use Rattle.clip_protocol.specs.Steps.Flowing.{items_begun}
use Rattle.clip_protocol.specs.Steps.Putting.{Puts, stand, with_text}
use Rattle.clip_protocol.proofs.Printed.{array_front, items_all, items_closed, items_piece, piece_mapped}
use Rattle.clip_protocol.proofs.Putting.{broken_on, puts_more, puts_on, puts_two, puts_written, refused}
use Rattle.clip_protocol.proofs.put.put_hits.Given.{Over}
use Rattle.clip_protocol.proofs.put.put_hits.Goals as goal
use Rattle.clip_protocol.proofs.put.put_hits.Goals.{In_ok-text}

pub returns-in_err-separate-clause-puts : goal.returns-in_err-separate-clause-puts
returns-in_err-separate-clause-puts g c =
    let ds = map hit_data (map hit_value c.args.hits.now) in
    let front = array_front ds c.loop-at.at in
    let here = stand g.W.Sink.taken g.W.Sink.has_failed c.loop-at.flow.writer.now c.loop-at.flow.outbox.now in
    refused c.from_residual-in_err-separate.result _ here c.loop-at.text.items (91
    ∷ items_begun false (take c.loop-at.at ds)) front.0 (compact_text (array_of ds))
    c.from_residual-in_err-separate.ensures.1 front.1 c.loop-at.invariant.puts

pub returns-in_err-text-clause-puts : goal.returns-in_err-text-clause-puts
returns-in_err-text-clause-puts g c =
    let ds = map hit_data (map hit_value c.args.hits.now) in
    let front = array_front ds c.loop-at.at in
    let here = stand g.W.Sink.taken g.W.Sink.has_failed c.loop-at.flow.writer.now c.loop-at.flow.outbox.now in
    refused c.from_residual-in_err-text.result _ here c.loop-at.text.items (91
    ∷ items_begun false (take c.loop-at.at ds)) front.0 (compact_text (array_of ds))
    c.from_residual-in_err-text.ensures.1 front.1 c.loop-at.invariant.puts

-- the next hits were written
written : (g : Over) (c : In_ok-text g)
    → Puts (stand g.W.Sink.taken g.W.Sink.has_failed c.args.flow.now.writer.now (c.args.flow.now.outbox.now
    ++ c.args.text.items))
    (stand g.W.Sink.taken g.W.Sink.has_failed c.loop-at.flow.writer.now (c.loop-at.flow.outbox.now
    ++ c.in_ok-text.text.items))
    (91 ∷ items_begun false (take c.min-end.result (map hit_data (map hit_value c.args.hits.now))))
written g c =
    let hits = c.args.hits.now in
    let ds = map hit_data (map hit_value hits) in
    let i = c.loop-at.at in
    let j = c.min-end.result in
    let below : i < j = omega (arith, c.min-end.ensures, c.saturating_add.ensures, c.loop-at-test.true) in
    let within : j ≤ length ds =
    omega (arith, c.min-end.ensures, length-map hits hit_value, length-map (map hit_value hits) hit_data) in
    let piece = ap (map hit_data) (piece_mapped hit_value hits (j - i) i)
    ∙ piece_mapped hit_data (map hit_value hits) (j - i) i in
    let old = stand g.W.Sink.taken g.W.Sink.has_failed c.args.flow.now.writer.now (c.args.flow.now.outbox.now
    ++ c.args.text.items) in
    let here = stand g.W.Sink.taken g.W.Sink.has_failed c.loop-at.flow.writer.now c.loop-at.flow.outbox.now in
    let first = items_begun false (take i ds) in
    subst (Puts old (with_text here c.in_ok-text.text.items)) (ap (λ t. 91 ∷ t) (items_piece ds i j below within))
    (puts_two old here c.loop-at.text.items c.separate.new.text.items c.in_ok-text.text.items (91 ∷ first)
    (comma_if (nat_lt 0 i)) (items_begun false (take (j - i) (drop i ds))) c.loop-at.invariant.puts
    c.in_ok-separate.ensures (c.in_ok-text.ensures ∙ ap (λ p. c.separate.new.text.items ++ items_begun false p) piece))

pub returns-in_err-text-2-clause-puts : goal.returns-in_err-text-2-clause-puts
returns-in_err-text-2-clause-puts g c =
    let ds = map hit_data (map hit_value c.args.hits.now) in
    let end = c.min-end.result in
    let front = array_front ds end in
    let here = (goal.at.returns-in_err-text-2-clause-puts g c).In_ok-text in
    let now = stand g.W.Sink.taken g.W.Sink.has_failed c.put_piece.new.flow.writer.now c.put_piece.new.flow.outbox.now
    in
    broken_on c.from_residual-in_err-text-2.result _ _ _ now (91 ∷ items_begun false (take end ds)) front.0
    (compact_text (array_of ds)) c.from_residual-in_err-text-2.ensures.1 front.1 (written g here)
    c.in_err-text-2.ensures.puts

pub returns-in_err-push-2-clause-puts : goal.returns-in_err-push-2-clause-puts
returns-in_err-push-2-clause-puts g c =
    let ds = map hit_data (map hit_value c.args.hits.now) in
    let front = array_front ds c.loop-at.at in
    let here = stand g.W.Sink.taken g.W.Sink.has_failed c.loop-at.flow.writer.now c.loop-at.flow.outbox.now in
    refused c.from_residual-in_err-push-2.result _ here c.loop-at.text.items (91
    ∷ items_begun false (take c.loop-at.at ds)) front.0 (compact_text (array_of ds))
    c.from_residual-in_err-push-2.ensures.1 front.1 c.loop-at.invariant.puts

pub returns-clause-puts : goal.returns-clause-puts
returns-clause-puts g c =
    let ds = map hit_data (map hit_value c.args.hits.now) in
    let old = stand g.W.Sink.taken g.W.Sink.has_failed c.args.flow.now.writer.now (c.args.flow.now.outbox.now
    ++ c.args.text.items) in
    let here = stand g.W.Sink.taken g.W.Sink.has_failed c.loop-at.flow.writer.now c.loop-at.flow.outbox.now in
    let first = 91 ∷ items_begun false (take c.loop-at.at ds) in
    let past : length ds ≤ c.loop-at.at =
    omega (
      arith,
      length-map c.args.hits.now hit_value,
      length-map (map hit_value c.args.hits.now) hit_data,
      c.loop-at-test.false,
    ) in
    let whole = ap (λ t. 91 ∷ (t ++ 93 ∷ [])) (items_all ds c.loop-at.at past)
    ∙ ap (λ t. 91 ∷ t) (items_closed false ds) in
    subst (Puts old (with_text here c.push-2.new.self.items)) whole
    (puts_more old (with_text here c.loop-at.text.items) (with_text here c.push-2.new.self.items) first (93 ∷ [])
    c.loop-at.invariant.puts
    (puts_written here c.loop-at.text.items c.push-2.new.self.items (93 ∷ []) c.in_ok-push-2.ensures.items))

pub loop-at-preserved : goal.loop-at-preserved
loop-at-preserved g c =
    let here = (goal.at.loop-at-preserved g c).In_ok-text in
    record {
      same_reference = c.in_ok-text-2.ensures.same_reference ∙ c.loop-at.invariant.same_reference;
      within = omega (arith, c.min-end.ensures);
      puts = puts_on _ _ _ _ (written g here) c.in_ok-text-2.ensures.puts;
    }
