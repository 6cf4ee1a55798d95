use Rattle.std.proofs.Common.{ap, Ok, ◌∙◌}
use Rattle.clip_registry.proofs.Turns.{fewer, turn_more}
use Rattle.clip_registry.proofs.turn.merge_all.Goals as goal

pub loop-smaller : goal.loop-smaller
loop-smaller g c = fewer c.args.to_one c.loop.registrar c.merge_turn.new.registrar
    (c.in_ok-merge_turn.ensures.installed (ap Ok c.in-Installed.is))

pub loop-preserved : goal.loop-preserved
loop-preserved g c = record {
  turns = turn_more c.args.to_one c.args.registrar.now c.loop.registrar c.merge_turn.new.registrar
      c.loop.invariant.turns (c.in_ok-merge_turn.ensures.installed (ap Ok c.in-Installed.is));
  history = c.merge_turn.ensures.history ∙ c.loop.invariant.history;
}
