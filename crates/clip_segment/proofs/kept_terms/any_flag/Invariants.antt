use Rattle.std.proofs.Common.{◌≡◌, drop}
use Rattle.std.specs.List.{list_any}
use Rattle.clip_segment.specs.Steps.Parts.{flag_at}
use Rattle.clip_segment.proofs.kept_terms.any_flag.Given as goal

abbrev pub invariant-loop-position : goal.invariant-loop-position
invariant-loop-position l = list_any (flag_at l.flags) (drop l.position-index l.positions)
    ≡ list_any (flag_at l.flags) l.positions
