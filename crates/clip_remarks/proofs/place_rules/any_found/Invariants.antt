use Rattle.std.proofs.Common.{◌≡◌, map}
use Rattle.clip_explain.specs.Lexemes.{placed_of}
use Rattle.clip_remarks.specs.Places.{any_found}
use Rattle.clip_remarks.proofs.place_rules.any_found.Given as goal

abbrev pub invariant-loop-i : goal.invariant-loop-i
invariant-loop-i l = l.found ≡ any_found (map placed_of l.lexemes) l.i
