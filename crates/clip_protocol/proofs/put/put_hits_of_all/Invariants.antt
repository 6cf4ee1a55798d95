use Rattle.std.proofs.Common.{◌≡◌, ◌++◌, false, map, take}
use Rattle.clip_protocol.specs.Reply.{hit_data}
use Rattle.clip_protocol.specs.Request.{array_of}
use Rattle.clip_protocol.specs.Steps.Flowing.{items_begun}
use Rattle.clip_protocol.specs.Steps.Putting.{Puts, stand}
use Rattle.clip_protocol.proofs.put.put_hits_of_all.Given as goal

abbrev pub invariant-loop-place : goal.invariant-loop-place
invariant-loop-place g l =
    let taken = g.W.Sink.taken in
    let failed = g.W.Sink.has_failed in
    record {
      same_reference : l.flow.writer.ghost_name ≡ l.fn.flow.writer.ghost_name;
      puts : Puts (stand taken failed l.fn.flow.writer.now (l.fn.flow.outbox.now ++ l.fn.text.items))
          (stand taken failed l.flow.writer.now (l.flow.outbox.now ++ l.text.items))
          (items_begun false (take l.place (map (λ a. array_of (map hit_data a.hits)) l.alerts)));
    }
