use Rattle.std.proofs.Common.{◌≡◌, map, drop}
use Rattle.std.specs.List.{list_any}
use Rattle.clip_explain.specs.Lexemes.{placed_of}
use Rattle.clip_remarks.specs.Kinds.{is_colon, kinds}
use Rattle.clip_remarks.proofs.groups.has_colon.Given as goal

abbrev pub invariant-loop-lexeme : goal.invariant-loop-lexeme
invariant-loop-lexeme l =
    list_any is_colon (kinds (map placed_of (drop l.lexeme-index l.lexemes)))
    ≡ list_any is_colon (kinds (map placed_of l.lexemes))
