use Rattle.std.proofs.Common.{◌-◌, length, map}
use Rattle.std.specs.List.{All}
use Rattle.clip_extract.specs.Keys.{key_of}
use Rattle.clip_terms.specs.Steps.Parts.{IsFieldPart}
use Rattle.clip_terms.proofs.parts.parts_of.Given as goal

abbrev pub invariant-loop-place : goal.invariant-loop-place
invariant-loop-place l = All (IsFieldPart (map key_of l.keys)) l.parts.items

abbrev pub decreases-loop-place : goal.decreases-loop-place
decreases-loop-place l = length l.keys - l.place
