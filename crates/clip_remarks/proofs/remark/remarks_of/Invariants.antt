use Rattle.std.proofs.Common.{◌≡◌, map}
use Rattle.clip_explain.specs.Lexemes.{placed_of}
use Rattle.clip_remarks.specs.Remarks.{remarks_before}
use Rattle.clip_remarks.proofs.remark.remarks_of.Given as goal

abbrev pub invariant-loop-i : goal.invariant-loop-i
invariant-loop-i l = l.remarks.items ≡ remarks_before (map placed_of l.lexemes) l.i
