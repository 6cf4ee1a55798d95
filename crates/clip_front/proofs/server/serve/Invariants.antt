use Rattle.std.proofs.Common.{◌≡◌}
use Rattle.clip_stream.specs.Steps.Reading.{fuel}
use Rattle.clip_front.specs.Devices.{devices_at}
use Rattle.clip_front.proofs.Progress.{Goes}
use Rattle.clip_front.proofs.server.serve.Given as goal

abbrev pub invariant-lines : goal.invariant-lines
invariant-lines g l = record {
  same_reference : l.flow.writer.ghost_name ≡ l.initial.flow.writer.ghost_name;
  goes :
      Goes g.S.Server.answers g.S.Server.is_settled (l.fn.server, l.fn.lent) (l.server, l.lent)
      (devices_at g.R.Source g.W.Sink l.fn.reader l.fn.writer)
      (devices_at g.R.Source g.W.Sink l.reader l.flow.writer.now) l.lines l.flow.outbox.now l.has_more l.count;
}

abbrev pub decreases-lines : goal.decreases-lines
decreases-lines g l = fuel l.lines
