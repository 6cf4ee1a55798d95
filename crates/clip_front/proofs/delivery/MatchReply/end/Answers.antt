use Rattle.std.proofs.Common.{◌++◌, ◌∙◌, ap, map, subst, List, ℕ, OnErr, OnOk}
use Rattle.std.specs.Arc.{arc_str_bytes}
use Rattle.clip_stream.specs.Device.{AppendsFront, HandsOver}
use Rattle.clip_stream.proofs.Faults.{on_err}
use Rattle.clip_stream.proofs.Flows.{none_taken}
use Rattle.clip_protocol.specs.Steps.Flowing.{closing}
use Rattle.clip_front.proofs.delivery.MatchReply.end.Goals as goal

pub returns-in_err-text-clause-front : goal.returns-in_err-text-clause-front
returns-in_err-text-clause-front g c = on_err _ (none_taken _ _)

pub returns-clause-moved : goal.returns-clause-moved
returns-clause-moved g c =
    let P : List ℕ → Type 0 =
    λ t. OnOk c.put.result (HandsOver (g.W.Sink.taken c.args.flow.now.writer.now) (c.args.flow.now.outbox.now ++ t)
    (g.W.Sink.taken c.put.new.self.writer.now) c.put.new.self.outbox.now) in
    subst P (c.deref-2.ensures.value ∙ c.in_ok-text.ensures
    ∙ ap (λ ns. c.new.result.items ++ closing c.args.self.number (map (λ n. arc_str_bytes n.text) ns))
    c.deref.ensures.value ∙ ap (λ xs. xs
    ++ closing c.args.self.number (map (λ n. arc_str_bytes n.text) c.args.self.notes.items)) c.new.ensures.items)
    c.put.ensures.moved

pub returns-clause-front : goal.returns-clause-front
returns-clause-front g c =
    let P : List ℕ → Type 0 =
    λ t. OnErr c.put.result (AppendsFront (g.W.Sink.taken c.args.flow.now.writer.now)
    (g.W.Sink.taken c.put.new.self.writer.now) (c.args.flow.now.outbox.now ++ t)) in
    subst P (c.deref-2.ensures.value ∙ c.in_ok-text.ensures
    ∙ ap (λ ns. c.new.result.items ++ closing c.args.self.number (map (λ n. arc_str_bytes n.text) ns))
    c.deref.ensures.value ∙ ap (λ xs. xs
    ++ closing c.args.self.number (map (λ n. arc_str_bytes n.text) c.args.self.notes.items)) c.new.ensures.items)
    c.put.ensures.front
