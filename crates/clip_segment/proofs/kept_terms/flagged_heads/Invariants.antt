-- The terms so far, with those to come.
use Rattle.std.proofs.Common.{◌≡◌, ◌++◌, drop}
use Rattle.clip_indexed.specs.Selecting.{flagged}
use Rattle.clip_segment.proofs.kept_terms.flagged_heads.Given as goal

abbrev pub invariant-loop-number : goal.invariant-loop-number
invariant-loop-number l = l.heads.items ++ flagged (drop l.number l.flags) (drop l.number l.terms)
    ≡ flagged l.flags l.terms
