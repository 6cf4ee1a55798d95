-- The numbers so far, with those to come.
use Rattle.std.proofs.Common.{◌≡◌, ◌++◌, flat_map, drop}
use Rattle.clip_plan.specs.Plan.{names}
use Rattle.clip_indexed.specs.Selecting.{flagged}
use Rattle.clip_segment.proofs.kept_terms.kept_numbers.Given as goal

abbrev pub invariant-loop-position : goal.invariant-loop-position
invariant-loop-position l =
    l.numbers.items ++ flat_map names (flagged (drop l.position l.kept) (drop l.position l.plans))
    ≡ flat_map names (flagged l.kept l.plans)
