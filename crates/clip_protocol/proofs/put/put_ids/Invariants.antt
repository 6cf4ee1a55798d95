use Rattle.std.proofs.Common.{◌≡◌, ◌≤◌, ◌-◌, ◌++◌, false, length, map, take}
use Rattle.serde_json.specs.Data.{string}
use Rattle.clip_protocol.specs.Steps.Flowing.{items_begun}
use Rattle.clip_protocol.specs.Steps.Putting.{Puts, stand}
use Rattle.clip_protocol.proofs.put.put_ids.Given as goal

abbrev pub invariant-loop-at : goal.invariant-loop-at
invariant-loop-at g l =
    let taken = g.W.Sink.taken in
    let failed = g.W.Sink.has_failed in
    record {
      same_reference : l.flow.writer.ghost_name ≡ l.fn.flow.writer.ghost_name;
      within : l.at ≤ length l.ids;
      puts : Puts (stand taken failed l.fn.flow.writer.now (l.fn.flow.outbox.now ++ l.fn.text.items))
          (stand taken failed l.flow.writer.now (l.flow.outbox.now ++ l.text.items))
          (items_begun false (take l.at (map string (map (λ id. id.now) l.ids))));
    }

abbrev pub decreases-loop-at : goal.decreases-loop-at
decreases-loop-at g l = length l.ids - l.at
