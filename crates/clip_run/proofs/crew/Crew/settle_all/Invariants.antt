use Rattle.std.proofs.Common.{◌≡◌, [], drop, map}
use Rattle.clip_run.specs.Crews.{course}
use Rattle.clip_run.specs.Due.{AreDue}
use Rattle.clip_run.specs.Owed.{PaysInto, with_owed}
use Rattle.clip_run.specs.Pending.{owed_by}
use Rattle.clip_run.proofs.crew.Crew.settle_all.Given as goal

abbrev pub invariant-loop-line : goal.invariant-loop-line
invariant-loop-line g l = record {
  same_reference : l.flow.writer.ghost_name ≡ l.fn.flow.writer.ghost_name;
  well : g.W.Sink.has_failed l.flow.writer.now ≡ g.W.Sink.has_failed l.fn.flow.writer.now;
  paid :
      PaysInto (with_owed (course l.fn.self (g.A.Audience.hearers l.fn.audience)) (map owed_by l.items))
      (with_owed (course l.self (g.A.Audience.hearers l.audience)) (map owed_by (drop l.line l.items)))
      (g.W.Sink.taken l.fn.flow.writer.now) l.fn.flow.outbox.now (g.W.Sink.taken l.flow.writer.now) l.flow.outbox.now;
  settled : l.self.owed ≡ [];
  settings : l.self.settings ≡ l.fn.self.settings;
  due : AreDue l.fn.self.settings l.items l.answers.items;
}
