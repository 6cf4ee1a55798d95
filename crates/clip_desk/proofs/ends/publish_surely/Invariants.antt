use Rattle.std.proofs.Common.{◌≡◌}
use Rattle.clip_desk.proofs.ends.publish_surely.Given as goal

-- a refused try leaves what was published
abbrev pub invariant-loop : goal.invariant-loop
invariant-loop g l = l.writer.desk.shown.value ≡ l.fn.writer.desk.shown.value
