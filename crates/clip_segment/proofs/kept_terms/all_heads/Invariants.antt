use Rattle.std.proofs.Common.{◌≡◌, take}
use Rattle.clip_segment.proofs.kept_terms.all_heads.Given as goal

abbrev pub invariant-loop-number : goal.invariant-loop-number
invariant-loop-number l = l.heads.items ≡ take l.number l.terms
