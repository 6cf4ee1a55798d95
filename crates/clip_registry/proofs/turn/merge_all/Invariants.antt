use Rattle.std.proofs.Common.{◌≡◌, length}
use Rattle.clip_registry.specs.Steps.Turns.{TakesTurns}
use Rattle.clip_registry.proofs.turn.merge_all.Given as goal

abbrev pub invariant-loop : goal.invariant-loop
invariant-loop g l = record {
  turns : TakesTurns l.to_one l.fn.registrar l.registrar;
  history : l.registrar.history ≡ l.fn.registrar.history;
}

abbrev pub decreases-loop : goal.decreases-loop
decreases-loop g l = length l.registrar.segments
