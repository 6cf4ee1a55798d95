use Rattle.std.proofs.Common.{◌≡◌, ◌++◌, map, drop}
use Rattle.clip_explain.specs.Lexemes.{placed_of}
use Rattle.clip_remarks.specs.Rules.{rules}
use Rattle.clip_remarks.specs.Remarks.{told}
use Rattle.clip_remarks.proofs.remark.push_remarks.Given as goal

abbrev pub invariant-loop-rule : goal.invariant-loop-rule
invariant-loop-rule l =
    l.remarks.items ++ told (map placed_of l.lexemes) l.i l.at (drop l.rule-index l.rule-items)
    ≡ l.fn.remarks.items ++ told (map placed_of l.lexemes) l.i l.at rules
