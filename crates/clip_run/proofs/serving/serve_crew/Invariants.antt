use Rattle.std.specs.Prelude.{◌≡◌, []}
use Rattle.clip_stream.specs.Steps.Reading.{fuel}
use Rattle.clip_front.specs.Devices.{devices_at}
use Rattle.clip_front.proofs.Progress.{Goes}
use Rattle.clip_run.specs.Crews.{course_at}
use Rattle.clip_run.specs.Owed.{TurnsIn}
use Rattle.clip_run.proofs.serving.serve_crew.Given as goal

abbrev pub invariant-lines : goal.invariant-lines
invariant-lines g l = record {
  same_reference : l.flow.writer.ghost_name ≡ l.initial.flow.writer.ghost_name;
  goes :
      Goes (TurnsIn (course_at g.A.Audience.hearers)) (λ s. s.0.owed ≡ []) (l.fn.crew, l.fn.audience) (
        l.crew,
        l.audience,
      ) (devices_at g.S.Source g.W.Sink l.fn.reader l.fn.writer)
      (devices_at g.S.Source g.W.Sink l.reader l.flow.writer.now) l.lines l.flow.outbox.now l.has_more l.count;
}

abbrev pub decreases-lines : goal.decreases-lines
decreases-lines g l = fuel l.lines
