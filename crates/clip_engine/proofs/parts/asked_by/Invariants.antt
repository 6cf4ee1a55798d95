use Rattle.std.proofs.Common.{◌≡◌, take}
use Rattle.clip_engine.specs.Gathered.{asked_in}
use Rattle.clip_engine.proofs.parts.asked_by.Given as goal

abbrev pub invariant-loop-part : goal.invariant-loop-part
invariant-loop-part l = l.asked ≡ asked_in (take l.part-index l.parts)
