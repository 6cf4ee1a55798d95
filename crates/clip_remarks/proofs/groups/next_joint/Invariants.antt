use Rattle.std.proofs.Common.{◌≡◌, ◌≤◌, map, drop}
use Rattle.clip_explain.specs.Lexemes.{placed_of}
use Rattle.clip_remarks.specs.Kinds.{kinds, next_joint}
use Rattle.clip_remarks.proofs.groups.next_joint.Given as goal

abbrev pub invariant-loop-lexeme : goal.invariant-loop-lexeme
invariant-loop-lexeme l = record {
  small : l.depth ≤ l.lexeme-index;
  later : next_joint l.depth (kinds (map placed_of (drop l.lexeme-index l.rest)))
      ≡ next_joint 0 (kinds (map placed_of l.rest));
}
