use Rattle.std.proofs.Common.{◌++◌, ◌∙◌, subst, List, ℕ}
use Rattle.clip_stream.specs.Device.{AppendsFront, HandsOver}
use Rattle.clip_stream.proofs.Faults.{on_err}
use Rattle.clip_stream.proofs.Flows.{none_taken}
use Rattle.clip_front.proofs.delivery.MatchReply.begin.Goals as goal

pub returns-in_err-text-clause-front : goal.returns-in_err-text-clause-front
returns-in_err-text-clause-front g c = on_err _ (none_taken _ _)

pub returns-in_err-put-clause-front : goal.returns-in_err-put-clause-front
returns-in_err-put-clause-front g c =
    let P : List ℕ → Type 0 =
    λ t. AppendsFront (g.W.Sink.taken c.args.flow.now.writer.now) (g.W.Sink.taken c.put.new.self.writer.now)
    (c.args.flow.now.outbox.now ++ t) in
    on_err _ (subst P (c.deref.ensures.value ∙ c.in_ok-text.ensures) c.in_err-put.ensures.front)

pub returns-clause-moved : goal.returns-clause-moved
returns-clause-moved g c =
    let P : List ℕ → Type 0 =
    λ t. HandsOver (g.W.Sink.taken c.args.flow.now.writer.now) (c.args.flow.now.outbox.now ++ t)
    (g.W.Sink.taken c.put.new.self.writer.now) c.put.new.self.outbox.now in
    subst P (c.deref.ensures.value ∙ c.in_ok-text.ensures) c.in_ok-put.ensures.moved
