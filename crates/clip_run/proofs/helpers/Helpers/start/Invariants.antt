use Rattle.std.specs.Arc.{arc_value}
use Rattle.std.specs.List.{All}
use Rattle.clip_run.specs.Due.{IsAskedFor}
use Rattle.clip_run.proofs.helpers.Helpers.start.Given as goal

abbrev pub invariant-loop : goal.invariant-loop
invariant-loop g l = All (IsAskedFor (arc_value l.group).settings (arc_value l.group).items.items) l.started.items
