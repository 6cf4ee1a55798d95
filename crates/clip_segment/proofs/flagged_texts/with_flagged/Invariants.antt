use Rattle.std.proofs.Common.{◌≡◌, ◌++◌, drop}
use Rattle.clip_indexed.specs.Selecting.{flagged}
use Rattle.clip_segment.proofs.flagged_texts.with_flagged.Given as goal

abbrev pub invariant-loop-place : goal.invariant-loop-place
invariant-loop-place l = l.texts ++ flagged (drop l.place l.flags) (drop l.place l.others)
    ≡ l.fn.texts ++ flagged l.flags l.others
