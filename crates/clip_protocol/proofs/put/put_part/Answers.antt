use Rattle.std.proofs.Common.{◌≡◌, List, ℕ, [], ◌++◌, Option, ap, subst, append-nil, ◌∙◌}
use Rattle.std.proofs.lemmas.Result.{on_err_weaker, on_ok_weaker}
use Rattle.clip_stream.specs.Device.{HandsOver}
use Rattle.clip_protocol.specs.Steps.Parts.{part_text}
use Rattle.clip_protocol.proofs.Putting.{front_of_held, handed_on}
use Rattle.clip_protocol.proofs.put.put_part.Goals as goal

-- no text stood behind what was gathered
begun_empty : (old new : Option (List ℕ)) (gathered text whole left : List ℕ) → text ≡ []
    → HandsOver old ((gathered ++ text) ++ whole) new left → HandsOver old (gathered ++ whole) new left
begun_empty old new gathered text whole left none p =
    subst (λ t. HandsOver old (t ++ whole) new left) (ap (λ t. gathered ++ t) none ∙ append-nil gathered) p

pub returns-clause-moved : goal.returns-clause-moved
returns-clause-moved g c =
    let taken = g.W.Sink.taken in
    let whole = part_text c.args.part in
    let first = begun_empty (taken c.args.flow.now.writer.now) (taken c.put_article.new.flow.writer.now)
    c.args.flow.now.outbox.now c.new.result.items whole (c.put_article.new.flow.outbox.now
    ++ c.in_ok-text.text.items) c.new.ensures.items c.in_ok-text.ensures.puts.handed in
    on_ok_weaker c.put.result
    (handed_on (taken c.args.flow.now.writer.now) (taken c.put_article.new.flow.writer.now)
    (taken c.put.new.self.writer.now) (c.args.flow.now.outbox.now ++ whole) (c.put_article.new.flow.outbox.now
    ++ c.in_ok-text.text.items) c.put.new.self.outbox.now first) (rw c.deref.ensures.value at c.put.ensures.moved)

pub returns-clause-front : goal.returns-clause-front
returns-clause-front g c =
    let taken = g.W.Sink.taken in
    let whole = part_text c.args.part in
    let first = begun_empty (taken c.args.flow.now.writer.now) (taken c.put_article.new.flow.writer.now)
    c.args.flow.now.outbox.now c.new.result.items whole (c.put_article.new.flow.outbox.now
    ++ c.in_ok-text.text.items) c.new.ensures.items c.in_ok-text.ensures.puts.handed in
    on_err_weaker c.put.result
    (front_of_held (taken c.args.flow.now.writer.now) (taken c.put_article.new.flow.writer.now)
    (taken c.put.new.self.writer.now) (c.args.flow.now.outbox.now ++ whole) (c.put_article.new.flow.outbox.now
    ++ c.in_ok-text.text.items) first) (rw c.deref.ensures.value at c.put.ensures.front)
